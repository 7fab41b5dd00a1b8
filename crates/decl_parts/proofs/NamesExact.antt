-- Names up to a colon are read exactly.
use Rattle.std.proofs.Common.{◌≡◌, ℕ, zero, suc, ◌≤◌, false, List, [], ◌∷◌, ◌++◌, length, Option, Some, None, ◌||◌, not, refl, ap, arith}
use Rattle.path_tree.specs.declared.token.Symbol.TheVariants as symbols
use Rattle.path_tree.specs.Lexeme.{Lexeme, identifier}
use Rattle.path_tree.specs.Reading.{symbol_at}
use Rattle.path_tree.proofs.Found.{symbol_found}
use Rattle.token_read.specs.Names.{Names, is_among, is_known, name_at}
use Rattle.decl_parts.specs.Declarations.{IsNames, last_name, name_and}
use Rattle.decl_parts.specs.DeclarationReading.{provided, names_by, names_with, names_at}
use Rattle.token_read.proofs.Exact.{Exact, bind_some, read_is}
use Rattle.decl_parts.proofs.Fronts.{name_front, provided_is, is_false, neither_is, along}

module _ (names : Names) where
  abbrev Finds : (left : ℕ) → List (List ℕ) → Type 0
  Finds left before = (ws : List Lexeme) (all : List (List ℕ)) (rest : List Lexeme) → names_at names left before ws ≡ Some (all, rest) → IsNames names left before ws all rest

  by_found : (left : ℕ) (before : List (List ℕ)) (bytes : List ℕ) (o : Option (List Lexeme)) (us : List Lexeme) (all : List (List ℕ)) (rest : List Lexeme) → Finds left (before ++ bytes ∷ []) → is_known names bytes ≡ false → is_among before bytes ≡ false →
      symbol_at symbols.Comma us ≡ o → names_by (names_at names left) (before ++ bytes ∷ []) us o ≡ Some (all, rest) → IsNames names (suc left) before (identifier bytes ∷ us) all rest
  unfolding names_by
  by_found left before bytes (Some behind) us all rest finds new alone comma h =
      along (IsNames names (suc left) before) _ _ all all rest rest (ap (λ r. identifier bytes ∷ r) (symbol_found symbols.Comma us behind comma)) refl refl (name_and new alone (finds behind all rest h))
  by_found left before bytes None us all rest finds new alone comma h =
      let end = bind_some (symbol_at symbols.Colon us) _ (all, rest) h in
      let k = read_is (before ++ bytes ∷ [], end.0) (all, rest) end.2 in
      along (IsNames names (suc left) before) _ _ all _ rest _ (ap (λ r. identifier bytes ∷ r) (symbol_found symbols.Colon us end.0 end.1)) k.0 k.1 (last_name new alone)

  names_found : (left : ℕ) (before : List (List ℕ)) → Finds left before
  unfolding names_at names_with
  names_found zero before ws all rest h = absurd cc
  names_found (suc left) before ws all rest h =
      let q = bind_some (name_at ws) _ (all, rest) h in
      let new = bind_some (provided (not (is_known names q.0.0 || is_among before q.0.0)) q.0.0) _ (all, rest) q.2 in
      let free = neither_is (is_known names q.0.0) (is_among before q.0.0) (is_false _ (provided_is (not (is_known names q.0.0 || is_among before q.0.0)) q.0.0 new.0 new.1).0) in
      along (IsNames names (suc left) before) ws _ all all rest rest (name_front ws q.0 q.1) refl refl
      (by_found left before q.0.0 (symbol_at symbols.Comma q.0.1) q.0.1 all rest (names_found left (before ++ q.0.0 ∷ [])) free.0 free.1 refl new.2)

  names_read : (left : ℕ) (before : List (List ℕ)) (ws : List Lexeme) (all : List (List ℕ)) (rest : List Lexeme) → IsNames names left before ws all rest → names_at names left before ws ≡ Some (all, rest)
  unfolding names_at names_with names_by
  names_read left before ws all rest (last_name new alone) = rw (new, alone) refl
  names_read left before ws all rest (name_and {left = fewer} {bytes = bytes} {ws = us} new alone others) =
      rw (new, alone) (names_read fewer (before ++ bytes ∷ []) us all rest others)

  names_shorter : (left : ℕ) (before : List (List ℕ)) (ws : List Lexeme) (all : List (List ℕ)) (rest : List Lexeme) → IsNames names left before ws all rest → length rest ≤ length ws
  names_shorter left before ws all rest (last_name new alone) = omega arith
  names_shorter left before ws all rest (name_and {left = fewer} {bytes = bytes} {ws = us} new alone others) =
      omega (arith, names_shorter fewer (before ++ bytes ∷ []) us all rest others)

  pub names_exact : (most left : ℕ) (before : List (List ℕ)) → Exact most (IsNames names left before) (names_at names left before)
  names_exact most left before = record {
    found = λ ws all rest h. names_found left before ws all rest h;
    read = λ ws all rest long h. names_read left before ws all rest h;
    shorter = λ ws all rest h. names_shorter left before ws all rest h;
  }
