-- Entry operations are read exactly.
use Rattle.std.proofs.Common.{◌≡◌, ℕ, ◌<◌, ◌≤◌, false, not, ◌||◌, List, [], ◌∷◌, ◌++◌, length, Option, Some, None, nat_lt, refl, sym, ap, subst, ◌∙◌, arith}
use Rattle.path_tree.specs.declared.token.Symbol.TheVariants as symbols
use Rattle.path_tree.specs.Lexeme.{Lexeme, symbol, identifier}
use Rattle.path_tree.specs.Reading.{symbol_at}
use Rattle.path_tree.proofs.Found.{symbol_found}
use Rattle.value_core.specs.declared.kind.Kind.{Kind}
use Rattle.token_read.specs.Names.{Names, is_known}
use Rattle.decl_core.specs.ObjectForm.{OperationForm}
use Rattle.token_read.specs.Series.{IsSeries, series_at}
use Rattle.body_read.specs.Statements.{IsStmts}
use Rattle.decl_parts.specs.Declarations.{IsParams, begins, with_params}
use Rattle.decl_read.specs.Declarations.{IsEntry, a_procedure, a_function, is_parameter, names_before, names_within, names_in_function}
use Rattle.decl_core.specs.ObjectForm.{operation_with}
use Rattle.decl_read.specs.DeclarationReading.{new_operation_in, procedure_in, function_in, entry_by, entry_in}
use Rattle.token_read.proofs.Exact.{Exact, bind_some, read_is, series_exact}
use Rattle.decl_parts.proofs.Fronts.{name_front, provided_is, is_false, neither_is, below, is_below, along}
use Rattle.decl_parts.proofs.KindsExact.{elem_found, elem_read}
use Rattle.decl_parts.proofs.ParamsExact.{params_exact}
use Rattle.body_read.proofs.StatementsFound.{body_exact}

module _ (most : ℕ) (constants : List (List ℕ × ℕ)) (parts : List (List ℕ × Kind)) where
  -- a new name, in front
  record NewRead (before : List OperationForm) (ws : List Lexeme) (own : List ℕ) (rest : List Lexeme) : Type 0 where
    stands : ws ≡ identifier own ∷ rest
    unknown : is_known (names_before constants parts before) own ≡ false
    no_parameter : is_parameter before own ≡ false
    room : length before < 32

  new_found : (before : List OperationForm) (ws : List Lexeme) (own : List ℕ) (rest : List Lexeme) → new_operation_in constants parts before ws ≡ Some (own, rest) → NewRead before ws own rest
  unfolding new_operation_in
  new_found before ws own rest h =
      let q = bind_some _ _ (own, rest) h in
      let new = bind_some _ _ (own, rest) q.2 in
      let room = bind_some _ _ (own, rest) new.2 in
      let k = read_is (q.0.0, q.0.1) (own, rest) room.2 in
      let tested = provided_is (not (is_known (names_before constants parts before) q.0.0 || is_parameter before q.0.0)) q.0.0 new.0 new.1 in
      let free = neither_is (is_known (names_before constants parts before) q.0.0) (is_parameter before q.0.0) (is_false _ tested.0) in
      let few = provided_is (nat_lt (length before) 32) new.0 room.0 room.1 in
      record {
        stands = name_front ws q.0 q.1 ∙ ap (λ b. identifier b ∷ q.0.1) k.0 ∙ ap (λ r. identifier own ∷ r) k.1;
        unknown = subst (λ b. is_known (names_before constants parts before) b ≡ false) k.0 free.0;
        no_parameter = subst (λ b. is_parameter before b ≡ false) k.0 free.1;
        room = below (length before) 32 few.0;
      }

  new_read : (before : List OperationForm) (own : List ℕ) (rest : List Lexeme) → is_known (names_before constants parts before) own ≡ false → is_parameter before own ≡ false → length before < 32 → new_operation_in constants parts before (identifier own ∷ rest) ≡ Some (own, rest)
  unfolding new_operation_in
  new_read before own rest a b c = rw (a, b, is_below (length before) 32 c) refl

  procedure_found : (before : List OperationForm) (ws : List Lexeme) (x : List OperationForm) (rest : List Lexeme) → procedure_in most constants parts before ws ≡ Some (x, rest) → IsEntry constants parts before (symbol symbols.Entry ∷ symbol symbols.Procedure ∷ ws) x rest
  unfolding procedure_in
  procedure_found before ws x rest h =
      let q = bind_some _ _ (x, rest) h in
      let p = bind_some _ _ (x, rest) q.2 in
      let behind = bind_some _ _ (x, rest) p.2 in
      let opened = bind_some _ _ (x, rest) behind.2 in
      let b = bind_some _ _ (x, rest) opened.2 in
      let end = bind_some _ _ (x, rest) b.2 in
      let own : List ℕ = q.0.0 in
      let names : Names = names_within constants parts before own in
      let same = read_is (before ++ operation_with parts own p.0.0 None b.0.0 ∷ [], end.0) (x, rest) end.2 in
      let f = new_found before ws own q.0.1 q.1 in
      let given = (params_exact most names).found q.0.1 p.0.0 p.0.1 p.1 in
      let then : p.0.1 ≡ symbol symbols.Semicolon ∷ symbol symbols.Begin ∷ opened.0 = symbol_found symbols.Semicolon p.0.1 behind.0 behind.1 ∙ ap (λ r. symbol symbols.Semicolon ∷ r) (symbol_found symbols.Begin behind.0 opened.0 opened.1) in
      let body = (body_exact (with_params names p.0.0) most).found opened.0 b.0.0 b.0.1 b.1 in
      let last = symbol_found symbols.Semicolon b.0.1 end.0 end.1 in
      along (IsEntry constants parts before) (symbol symbols.Entry ∷ symbol symbols.Procedure ∷ ws) (symbol symbols.Entry ∷ symbol symbols.Procedure ∷ identifier own ∷ q.0.1) x _ rest end.0
      (ap (λ r. symbol symbols.Entry ∷ symbol symbols.Procedure ∷ r) f.stands) same.0 same.1
      (a_procedure f.unknown f.no_parameter f.room (subst (λ r. IsParams names q.0.1 p.0.0 r) then given) (subst (λ r. IsStmts (with_params names p.0.0) 31 opened.0 b.0.0 r) last body))

  function_found : (before : List OperationForm) (ws : List Lexeme) (x : List OperationForm) (rest : List Lexeme) → function_in most constants parts before ws ≡ Some (x, rest) → IsEntry constants parts before (symbol symbols.Entry ∷ symbol symbols.Function ∷ ws) x rest
  unfolding function_in
  function_found before ws x rest h =
      let q = bind_some _ _ (x, rest) h in
      let p = bind_some _ _ (x, rest) q.2 in
      let colon = bind_some _ _ (x, rest) p.2 in
      let e = bind_some _ _ (x, rest) colon.2 in
      let behind = bind_some _ _ (x, rest) e.2 in
      let opened = bind_some _ _ (x, rest) behind.2 in
      let b = bind_some _ _ (x, rest) opened.2 in
      let end = bind_some _ _ (x, rest) b.2 in
      let own : List ℕ = q.0.0 in
      let names : Names = names_within constants parts before own in
      let same = read_is (before ++ operation_with parts own p.0.0 (Some e.0.0) b.0.0 ∷ [], end.0) (x, rest) end.2 in
      let f = new_found before ws own q.0.1 q.1 in
      let given = (params_exact most names).found q.0.1 p.0.0 p.0.1 p.1 in
      let sort = elem_found colon.0 e.0.0 e.0.1 e.1 in
      let then : e.0.1 ≡ symbol symbols.Semicolon ∷ symbol symbols.Begin ∷ opened.0 = symbol_found symbols.Semicolon e.0.1 behind.0 behind.1 ∙ ap (λ r. symbol symbols.Semicolon ∷ r) (symbol_found symbols.Begin behind.0 opened.0 opened.1) in
      let heads : p.0.1 ≡ symbol symbols.Colon ∷ symbol sort.word ∷ symbol symbols.Semicolon ∷ symbol symbols.Begin ∷ opened.0 =
      symbol_found symbols.Colon p.0.1 colon.0 colon.1 ∙ ap (λ r. symbol symbols.Colon ∷ r) (sort.stands ∙ ap (λ r. symbol sort.word ∷ r) then) in
      let body = (body_exact (names_in_function (with_params names p.0.0) own e.0.0) most).found opened.0 b.0.0 b.0.1 b.1 in
      let last = symbol_found symbols.Semicolon b.0.1 end.0 end.1 in
      along (IsEntry constants parts before) (symbol symbols.Entry ∷ symbol symbols.Function ∷ ws) (symbol symbols.Entry ∷ symbol symbols.Function ∷ identifier own ∷ q.0.1) x _ rest end.0
      (ap (λ r. symbol symbols.Entry ∷ symbol symbols.Function ∷ r) f.stands) same.0 same.1
      (a_function f.unknown f.no_parameter f.room (subst (λ r. IsParams names q.0.1 p.0.0 r) heads given) sort.is (subst (λ r. IsStmts (names_in_function (with_params names p.0.0) own e.0.0) 31 opened.0 b.0.0 r) last body))

  by_found : (o : Option (List Lexeme)) (before : List OperationForm) (ws : List Lexeme) (x : List OperationForm) (rest : List Lexeme) → symbol_at symbols.Procedure ws ≡ o → entry_by most constants parts before ws o ≡ Some (x, rest) → IsEntry constants parts before (symbol symbols.Entry ∷ ws) x rest
  unfolding entry_by
  by_found (Some behind) before ws x rest is h =
      subst (λ w. IsEntry constants parts before (symbol symbols.Entry ∷ w) x rest) (sym (symbol_found symbols.Procedure ws behind is)) (procedure_found before behind x rest h)
  by_found None before ws x rest is h =
      let f = bind_some _ _ (x, rest) h in
      subst (λ w. IsEntry constants parts before (symbol symbols.Entry ∷ w) x rest) (sym (symbol_found symbols.Function ws f.0 f.1)) (function_found before f.0 x rest f.2)

  entry_found : (before : List OperationForm) (ws : List Lexeme) (x : List OperationForm) (rest : List Lexeme) → entry_in most constants parts before ws ≡ Some (x, rest) → IsEntry constants parts before ws x rest
  unfolding entry_in
  entry_found before ws x rest h =
      let opened = bind_some _ _ (x, rest) h in
      subst (λ w. IsEntry constants parts before w x rest) (sym (symbol_found symbols.Entry ws opened.0 opened.1)) (by_found (symbol_at symbols.Procedure opened.0) before opened.0 x rest refl opened.2)

  entry_shorter : (before : List OperationForm) (ws : List Lexeme) (x : List OperationForm) (rest : List Lexeme) → IsEntry constants parts before ws x rest → length rest ≤ length ws
  entry_shorter before ws x rest (a_procedure {own = own} {params = params} {all = all} {ws = us} {vs = vs} a b c given body) =
      let first = (params_exact most (names_within constants parts before own)).shorter us params (symbol symbols.Semicolon ∷ symbol symbols.Begin ∷ vs) given in
      let second = (body_exact (with_params (names_within constants parts before own) params) most).shorter vs all (symbol symbols.Semicolon ∷ rest) body in
      omega arith
  entry_shorter before ws x rest (a_function {own = own} {params = params} {all = all} {s = s} {e = e} {ws = us} {vs = vs} a b c given sort body) =
      let first = (params_exact most (names_within constants parts before own)).shorter us params (symbol symbols.Colon ∷ symbol s ∷ symbol symbols.Semicolon ∷ symbol symbols.Begin ∷ vs) given in
      let second = (body_exact (names_in_function (with_params (names_within constants parts before own) params) own e) most).shorter vs all (symbol symbols.Semicolon ∷ rest) body in
      omega arith

  entry_read : (before : List OperationForm) (ws : List Lexeme) (x : List OperationForm) (rest : List Lexeme) → length ws < most → IsEntry constants parts before ws x rest → entry_in most constants parts before ws ≡ Some (x, rest)
  unfolding entry_in entry_by procedure_in function_in
  entry_read before ws x rest long (a_procedure {own = own} {params = params} {all = all} {ws = us} {vs = vs} a b c given body) =
      let first = (params_exact most (names_within constants parts before own)).shorter us params (symbol symbols.Semicolon ∷ symbol symbols.Begin ∷ vs) given in
      rw (new_read before own us a b c, (params_exact most (names_within constants parts before own)).read us params (symbol symbols.Semicolon ∷ symbol symbols.Begin ∷ vs) (omega arith) given, (body_exact (with_params (names_within constants parts before own) params) most).read vs all (symbol symbols.Semicolon ∷ rest) (omega arith) body) refl
  entry_read before ws x rest long (a_function {own = own} {params = params} {all = all} {s = s} {e = e} {ws = us} {vs = vs} a b c given sort body) =
      let first = (params_exact most (names_within constants parts before own)).shorter us params (symbol symbols.Colon ∷ symbol s ∷ symbol symbols.Semicolon ∷ symbol symbols.Begin ∷ vs) given in
      rw (new_read before own us a b c, (params_exact most (names_within constants parts before own)).read us params (symbol symbols.Colon ∷ symbol s ∷ symbol symbols.Semicolon ∷ symbol symbols.Begin ∷ vs) (omega arith) given, elem_read s e (symbol symbols.Semicolon ∷ symbol symbols.Begin ∷ vs) sort, (body_exact (names_in_function (with_params (names_within constants parts before own) params) own e) most).read vs all (symbol symbols.Semicolon ∷ rest) (omega arith) body) refl

  entry_exact : (before : List OperationForm) → Exact most (IsEntry constants parts before) (entry_in most constants parts before)
  entry_exact before = record {
    found = λ ws x rest h. entry_found before ws x rest h;
    read = λ ws x rest long h. entry_read before ws x rest long h;
    shorter = λ ws x rest h. entry_shorter before ws x rest h;
  }

  pub entries_exact : (left : ℕ) (before : List OperationForm) → Exact most (IsSeries (IsEntry constants parts) (begins symbols.Entry) left before) (series_at (entry_in most constants parts) (begins symbols.Entry) left before)
  entries_exact left before = series_exact most (IsEntry constants parts) (entry_in most constants parts) (begins symbols.Entry) entry_exact left before
