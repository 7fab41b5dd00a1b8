-- What is read from left to right is a path that stands in front.
use Rattle.std.proofs.Common.{◌≡◌, ℕ, ◌-◌, ◌<◌, List, [], ◌∷◌, ◌++◌, length, drop, Some, refl, sym, ap, ◌∙◌, append_assoc, arith}
use Rattle.std.proofs.lemmas.List.{length-append, drop_at}
use Rattle.path_tree.specs.declared.token.Symbol.TheVariants.{Path as PathWord, End}
use Rattle.path_tree.specs.Path.{Path}
use Rattle.path_tree.specs.Lexeme.{Lexeme, symbol}
use Rattle.path_tree.specs.Known.{Known}
use Rattle.path_tree.specs.Reading.{path_at}
use Rattle.path_tree.specs.Grammar.{IsPathAt, list_lexemes}
use Rattle.path_tree.proofs.Whole.{path_found, stands_at, is_read}

pub front_found : (known : Known) (most : ℕ) (ws : List Lexeme) (e : Path) (rest : List Lexeme) → path_at known most ws ≡ Some (e, rest) →
    IsPathAt known ws 0 e (length ws - length rest) × (drop (length ws - length rest) ws ≡ rest) × (length rest < length ws)
front_found known most ws e rest h =
    let f = path_found known most ws e rest h in
    let total = ap length f.stands in
    let parts = length-append (list_lexemes f.spelt) (symbol End ∷ rest) in
    let front : List Lexeme = symbol PathWord ∷ (list_lexemes f.spelt ++ symbol End ∷ []) in
    let whole : ws ≡ front ++ rest = f.stands ∙ ap (λ w. symbol PathWord ∷ w) (sym (append_assoc (list_lexemes f.spelt) (symbol End ∷ []) rest)) in
    let some = length-append (list_lexemes f.spelt) (symbol End ∷ []) in
    let long : length ws - length rest ≡ length front = omega arith in
    (stands_at known most ws 0 (length ws - length rest) e rest h (omega arith), ap (drop (length ws - length rest)) whole ∙ drop_at front rest (length ws - length rest) (sym long), omega arith)

pub front_read : (known : Known) (most : ℕ) (ws : List Lexeme) (e : Path) (to : ℕ) → length ws < most → IsPathAt known ws 0 e to → path_at known most ws ≡ Some (e, drop to ws)
front_read known most ws e to long p = is_read known most ws 0 to e p long
