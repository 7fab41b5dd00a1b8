-- Paths of an object, one behind the other.
use Rattle.std.proofs.Common.{◌≡◌, ℕ, ◌+◌, ◌<◌, ◌≤◌, Bool, true, false, List, [], ◌∷◌, ◌++◌, length, Some, None, nat_lt, refl, ap, subst, ◌∙◌, arith}
use Rattle.std.proofs.lemmas.Bool.Decides.{nat_tests}
use Rattle.path_tree.specs.declared.token.Token.{Token}
use Rattle.path_tree.specs.declared.token.Symbol.TheVariants as symbols
use Rattle.path_tree.specs.Path.{Path}
use Rattle.std.proofs.lemmas.List.{length-drop, length-map}
use Rattle.path_tree.specs.Lexeme.{Lexeme, lexemes, lexeme_of, symbol}
use Rattle.path_tree.specs.Known.{Known}
use Rattle.path_tree.specs.Reading.{path_at}
use Rattle.decl_parts.specs.Declarations.{IsPathItem, a_path, begins}
use Rattle.decl_parts.specs.DeclarationReading.{provided, path_item_in}
use Rattle.token_read.specs.Series.{IsSeries, series_at}
use Rattle.path_tree.proofs.Found.{symbol_found}
use Rattle.path_tree.proofs.ReadPaths.{front_found, front_read}
use Rattle.token_read.proofs.Exact.{Exact, bind_some, read_is, series_exact}

-- no path stands where no tokens are
pub no_path : (known : Known) (most : ℕ) (tokens : List Token) → length tokens ≡ 0 → path_at known most (lexemes tokens) ≡ None
unfolding path_at
no_path known most [] h = refl
no_path known most (t ∷ tokens) h = absurd (omega arith)

pub provided_is : {A : Type 0} (b : Bool) (a x : A) → provided b a ≡ Some x → (b ≡ true) × (a ≡ x)
provided_is true a x h = (refl, cc)
provided_is false a x h = absurd cc

module _ (constants : List (List ℕ × ℕ)) (operations : List (List ℕ)) where
  known : Known
  known = record { operations = operations; constants = constants }

  item_found : (before : List Path) (ws : List Lexeme) (x : List Path) (rest : List Lexeme) → path_item_in constants operations before ws ≡ Some (x, rest) → IsPathItem constants operations before ws x rest
  unfolding path_item_in known
  item_found before ws x rest h =
      let a = bind_some _ _ (x, rest) h in
      let r = provided_is (nat_lt (length before) 16) before a.0 a.1 in
      let room : length before < 16 = grind (arith, nat_tests, r.0) in
      let p = bind_some _ _ (x, rest) a.2 in
      let s = bind_some _ _ (x, rest) p.2 in
      let k = read_is (before ++ p.0.0 ∷ [], s.0) (x, rest) s.2 in
      let f = front_found known (length ws + 1) ws p.0.0 p.0.1 p.1 in
      let ends = f.1 ∙ symbol_found symbols.Semicolon p.0.1 s.0 s.1 ∙ ap (λ r. symbol symbols.Semicolon ∷ r) k.1 in
      subst (λ t. IsPathItem constants operations before ws t rest) k.0 (a_path room f.0 ends)

  item_shorter : (before : List Path) (ws : List Lexeme) (x : List Path) (rest : List Lexeme) → IsPathItem constants operations before ws x rest → length rest ≤ length ws
  item_shorter before ws x rest (a_path {to = to} room is ends) =
      let behind = ap length ends in
      let long = length-drop to ws in
      omega arith

  item_read : (before : List Path) (ws : List Lexeme) (x : List Path) (rest : List Lexeme) → IsPathItem constants operations before ws x rest → path_item_in constants operations before ws ≡ Some (x, rest)
  unfolding path_item_in known
  item_read before ws x rest (a_path {tree = tree} {to = to} room is ends) =
      let test : nat_lt (length before) 16 ≡ true = grind (arith, nat_tests, room) in
      let read = front_read known (length ws + 1) ws tree to (omega arith) is in
      rw (test, read, ends) refl

  pub item_exact : (most : ℕ) (before : List Path) → Exact most (IsPathItem constants operations before) (path_item_in constants operations before)
  item_exact most before = record {
    found = λ ws x rest h. item_found before ws x rest h;
    read = λ ws x rest long h. item_read before ws x rest h;
    shorter = λ ws x rest h. item_shorter before ws x rest h;
  }

  pub paths_exact : (most left : ℕ) (before : List Path) → Exact most (IsSeries (IsPathItem constants operations) (begins symbols.Path) left before) (series_at (path_item_in constants operations) (begins symbols.Path) left before)
  paths_exact most left before = series_exact most (IsPathItem constants operations) (path_item_in constants operations) (begins symbols.Path) (item_exact most) left before

  -- what stands behind a path is no longer than what stood before it
  pub shorter_behind : (before : List Path) (tokens rest : List Token) (x : List Path) → path_item_in constants operations before (lexemes tokens) ≡ Some (x, lexemes rest) → length rest ≤ length tokens
  shorter_behind before tokens rest x h =
      let short = item_shorter before (lexemes tokens) x (lexemes rest) (item_found before (lexemes tokens) x (lexemes rest) h) in
      let a = length-map tokens (λ (t : Token). lexeme_of t.kind) in
      let b = length-map rest (λ (t : Token). lexeme_of t.kind) in
      omega arith

-- what stands behind a path is shorter than what stood before it
pub behind_path : (known : Known) (most : ℕ) (tokens rest : List Token) (e : Path) → path_at known most (lexemes tokens) ≡ Some (e, lexemes rest) → length rest < length tokens
behind_path known most tokens rest e h =
    let f = front_found known most (lexemes tokens) e (lexemes rest) h in
    let a = length-map tokens (λ (t : Token). lexeme_of t.kind) in
    let b = length-map rest (λ (t : Token). lexeme_of t.kind) in
    let c = f.2 in
    omega arith
