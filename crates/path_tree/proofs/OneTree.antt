-- One tree for one text.
use Rattle.std.proofs.Common.{◌≡◌, ℕ, suc, List, [], ◌∷◌, ◌++◌, length, drop, Some, refl, sym, ap, ◌∙◌, append_assoc, arith}
use Rattle.std.proofs.lemmas.List.{length-drop, length-append, drop_at}
use Rattle.path_tree.specs.declared.token.Symbol.TheVariants.{Path as PathWord, End}
use Rattle.path_tree.specs.Path.{Path}
use Rattle.path_tree.specs.Lexeme.{Lexeme, symbol}
use Rattle.path_tree.specs.Known.{Known}
use Rattle.path_tree.specs.Grammar.{ListText, IsPathAt, list_lexemes}
use Rattle.path_tree.specs.Names.{NamesBelow}
use Rattle.path_tree.specs.Limits.{IsPathTree}
use Rattle.path_tree.specs.Canonical.{list_text, canonical_lexemes, AreDistinct}
use Rattle.path_tree.proofs.Whole.{is_read}
use Rattle.path_tree.proofs.Printing.{list_again, list_fits}
use Rattle.path_tree.proofs.FoundNames.{found_by_name}

pub pair_same : (x y : Path × List Lexeme) → Some x ≡ Some y → x ≡ y
pair_same x y h = cc

pub one_tree : (known : Known) (ws : List Lexeme) (from to last : ℕ) (e other : Path) → IsPathAt known ws from e to → IsPathAt known ws from other last → (other ≡ e) × (last ≡ to)
one_tree known ws from to last e other p q =
    let a = is_read known (suc (length ws)) ws from to e p (omega arith) in
    let b = is_read known (suc (length ws)) ws from last other q (omega arith) in
    let k = pair_same (other, drop last ws) (e, drop to ws) (sym b ∙ a) in
    let lengths = ap (λ (y : Path × List Lexeme). length y.1) k in
    let c = length-drop to ws in
    let d = length-drop last ws in
    let i = p.within in
    let j = q.within in
    (ap (λ y. y.0) k, omega arith)

-- the canonical text derives the path, whatever stands behind it
pub canonical_at : (known : Known) (e : Path) (rest : List Lexeme) → IsPathTree e → AreDistinct known.operations → NamesBelow e (length known.operations) →
    IsPathAt known (canonical_lexemes known.operations e ++ rest) 0 e (length (canonical_lexemes known.operations e))
canonical_at known e rest rules distinct named =
    let text : ListText = list_text known.operations e in
    let ws : List Lexeme = canonical_lexemes known.operations e in
    let found = found_by_name known e distinct named in
    let behind : rest ≡ drop (length ws) (ws ++ rest) = sym (drop_at ws rest (length ws) refl) in
    let lengths = length-append ws rest in
    record {
      text = text;
      stands = ap (λ w. symbol PathWord ∷ w) (append_assoc (list_lexemes text) (symbol End ∷ []) rest) ∙ ap (λ r. symbol PathWord ∷ (list_lexemes text ++ symbol End ∷ r)) behind;
      within = omega arith;
      fits = list_fits known e 32 found rules.bounds rules.shallow;
      is = sym (list_again known e found);
      once = rules.once;
      few = rules.few;
    }

pub canonical_only : (known : Known) (e : Path) (rest : List Lexeme) → IsPathTree e → AreDistinct known.operations → NamesBelow e (length known.operations) →
    (other : Path) (last : ℕ) → IsPathAt known (canonical_lexemes known.operations e ++ rest) 0 other last → (other ≡ e) × (last ≡ length (canonical_lexemes known.operations e))
canonical_only known e rest rules distinct named other last q = one_tree known _ 0 _ last e other (canonical_at known e rest rules distinct named) q
