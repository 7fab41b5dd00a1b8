-- Parameters are read exactly.
use Rattle.std.proofs.Common.{◌≡◌, ℕ, ◌-◌, ◌<◌, ◌≤◌, List, [], ◌∷◌, ◌++◌, length, Option, Some, None, refl, subst, arith}
use Rattle.path_tree.specs.declared.token.Symbol.TheVariants as symbols
use Rattle.path_tree.specs.Lexeme.{Lexeme, symbol}
use Rattle.path_tree.specs.Reading.{symbol_at}
use Rattle.path_tree.proofs.Found.{symbol_found}
use Rattle.value_core.specs.declared.kind.Elem.{Elem}
use Rattle.token_read.specs.Names.{Names}
use Rattle.token_read.specs.Series.{IsSeries, series_at}
use Rattle.decl_parts.specs.Declarations.{begins, each_with, with_params, IsNames, IsGroup, group, IsNextGroup, next_group, IsParams, no_params, some_params}
use Rattle.decl_parts.specs.DeclarationReading.{names_at, elem_at, group_of_params, next_group_in, params_by, params_in}
use Rattle.token_read.proofs.Exact.{Exact, bind_some, read_is, series_exact}
use Rattle.decl_parts.proofs.Fronts.{along}
use Rattle.decl_parts.proofs.KindsExact.{elem_found, elem_read}
use Rattle.decl_parts.proofs.NamesExact.{names_exact}

module _ (most : ℕ) (names : Names) where
  group_found : (before : List (List ℕ × Elem)) (ws : List Lexeme) (x : List (List ℕ × Elem)) (rest : List Lexeme) → group_of_params names before ws ≡ Some (x, rest) → IsGroup names before ws x rest
  unfolding group_of_params
  group_found before ws x rest h =
      let new = bind_some (names_at (with_params names before) (8 - length before) [] ws) _ (x, rest) h in
      let e = bind_some (elem_at new.0.1) _ (x, rest) new.2 in
      let same = read_is (before ++ each_with e.0.0 new.0.0, e.0.1) (x, rest) e.2 in
      let named = (names_exact (with_params names before) most (8 - length before) []).found ws new.0.0 new.0.1 new.1 in
      let f = elem_found new.0.1 e.0.0 e.0.1 e.1 in
      along (IsGroup names before) ws ws x _ rest _ refl same.0 same.1
      (group (subst (λ r. IsNames (with_params names before) (8 - length before) [] ws new.0.0 r) f.stands named) f.is)

  group_read : (before : List (List ℕ × Elem)) (ws : List Lexeme) (x : List (List ℕ × Elem)) (rest : List Lexeme) → length ws < most → IsGroup names before ws x rest → group_of_params names before ws ≡ Some (x, rest)
  unfolding group_of_params
  group_read before ws x rest long (group {new = new} {s = s} {e = e} named is) =
      rw ((names_exact (with_params names before) most (8 - length before) []).read ws new (symbol s ∷ rest) long named, elem_read s e rest is) refl

  group_shorter : (before : List (List ℕ × Elem)) (ws : List Lexeme) (x : List (List ℕ × Elem)) (rest : List Lexeme) → IsGroup names before ws x rest → length rest ≤ length ws
  group_shorter before ws x rest (group {new = new} {s = s} named is) =
      let short = (names_exact (with_params names before) most (8 - length before) []).shorter ws new (symbol s ∷ rest) named in
      omega arith

  next_found : (before : List (List ℕ × Elem)) (ws : List Lexeme) (x : List (List ℕ × Elem)) (rest : List Lexeme) → next_group_in names before ws ≡ Some (x, rest) → IsNextGroup names before ws x rest
  unfolding next_group_in
  next_found before ws x rest h =
      let opened = bind_some (symbol_at symbols.Semicolon ws) _ (x, rest) h in
      along (IsNextGroup names before) ws _ x x rest rest (symbol_found symbols.Semicolon ws opened.0 opened.1) refl refl (next_group (group_found before opened.0 x rest opened.2))

  next_read : (before : List (List ℕ × Elem)) (ws : List Lexeme) (x : List (List ℕ × Elem)) (rest : List Lexeme) → length ws < most → IsNextGroup names before ws x rest → next_group_in names before ws ≡ Some (x, rest)
  unfolding next_group_in
  next_read before ws x rest long (next_group {ws = us} is) = group_read before us x rest (omega arith) is

  next_shorter : (before : List (List ℕ × Elem)) (ws : List Lexeme) (x : List (List ℕ × Elem)) (rest : List Lexeme) → IsNextGroup names before ws x rest → length rest ≤ length ws
  next_shorter before ws x rest (next_group {ws = us} is) = omega (arith, group_shorter before us x rest is)

  pub next_group_exact : (before : List (List ℕ × Elem)) → Exact most (IsNextGroup names before) (next_group_in names before)
  next_group_exact before = record {
    found = λ ws x rest h. next_found before ws x rest h;
    read = λ ws x rest long h. next_read before ws x rest long h;
    shorter = λ ws x rest h. next_shorter before ws x rest h;
  }

  groups_exact : (before : List (List ℕ × Elem)) → Exact most (IsSeries (IsNextGroup names) (begins symbols.Semicolon) 8 before) (series_at (next_group_in names) (begins symbols.Semicolon) 8 before)
  groups_exact before = series_exact most (IsNextGroup names) (next_group_in names) (begins symbols.Semicolon) next_group_exact 8 before

  by_found : (o : Option (List Lexeme)) (ws : List Lexeme) (x : List (List ℕ × Elem)) (rest : List Lexeme) → symbol_at symbols.OpenParen ws ≡ o → params_by names ws o ≡ Some (x, rest) → IsParams names ws x rest
  unfolding params_by
  by_found None ws x rest is h =
      let same = read_is ([], ws) (x, rest) h in
      along (IsParams names) ws ws x _ rest _ refl same.0 same.1 (no_params is)
  by_found (Some opened) ws x rest is h =
      let one = bind_some (group_of_params names [] opened) _ (x, rest) h in
      let all = bind_some (series_at (next_group_in names) (begins symbols.Semicolon) 8 one.0.0 one.0.1) _ (x, rest) one.2 in
      let end = bind_some (symbol_at symbols.CloseParen all.0.1) _ (x, rest) all.2 in
      let same = read_is (all.0.0, end.0) (x, rest) end.2 in
      let others = (groups_exact one.0.0).found one.0.1 all.0.0 all.0.1 all.1 in
      along (IsParams names) ws _ x _ rest _ (symbol_found symbols.OpenParen ws opened is) same.0 same.1
      (some_params (group_found [] opened one.0.0 one.0.1 one.1) (subst (λ r. IsSeries (IsNextGroup names) (begins symbols.Semicolon) 8 one.0.0 one.0.1 all.0.0 r) (symbol_found symbols.CloseParen all.0.1 end.0 end.1) others))

  params_found : (ws : List Lexeme) (x : List (List ℕ × Elem)) (rest : List Lexeme) → params_in names ws ≡ Some (x, rest) → IsParams names ws x rest
  unfolding params_in
  params_found ws x rest h = by_found (symbol_at symbols.OpenParen ws) ws x rest refl h

  params_read : (ws : List Lexeme) (x : List (List ℕ × Elem)) (rest : List Lexeme) → length ws < most → IsParams names ws x rest → params_in names ws ≡ Some (x, rest)
  unfolding params_in params_by
  params_read ws x rest long (no_params is) = rw is refl
  params_read ws x rest long (some_params {one = one} {ws = us} {vs = vs} first others) =
      let short = group_shorter [] us one vs first in
      rw (group_read [] us one vs (omega arith) first, (groups_exact one).read vs x (symbol symbols.CloseParen ∷ rest) (omega arith) others) refl

  params_shorter : (ws : List Lexeme) (x : List (List ℕ × Elem)) (rest : List Lexeme) → IsParams names ws x rest → length rest ≤ length ws
  params_shorter ws x rest (no_params is) = omega arith
  params_shorter ws x rest (some_params {one = one} {ws = us} {vs = vs} first others) =
      let short = group_shorter [] us one vs first in
      let shorter = (groups_exact one).shorter vs x (symbol symbols.CloseParen ∷ rest) others in
      omega arith

  pub params_exact : Exact most (IsParams names) (params_in names)
  params_exact = record {
    found = λ ws x rest h. params_found ws x rest h;
    read = λ ws x rest long h. params_read ws x rest long h;
    shorter = λ ws x rest h. params_shorter ws x rest h;
  }
