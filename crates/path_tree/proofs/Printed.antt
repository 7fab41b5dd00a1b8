-- The printed text of a path derives it and no other.
use Rattle.std.proofs.Common.{◌≡◌, ◌-◌, List, [], ◌∷◌, ◌++◌, map, length, refl, sym, ap, subst, ◌∙◌, arith}
use Rattle.std.proofs.lemmas.List.{length-append, length-map}
use Rattle.path_tree.specs.declared.token.Token.{Token}
use Rattle.path_tree.specs.Path.{Path}
use Rattle.path_tree.specs.Names.{NamesBelow}
use Rattle.path_tree.specs.Limits.{IsPathTree}
use Rattle.path_tree.specs.Lexeme.{end_mark, lexemes, lexeme_of}
use Rattle.path_tree.specs.Known.{Known}
use Rattle.path_tree.specs.Grammar.{IsPathAt}
use Rattle.path_tree.specs.Canonical.{canonical_bytes, canonical_lexemes, AreDistinct}
use Rattle.path_tree.specs.Tokens.{Placed, placed_tokens}
use Rattle.path_tree.specs.TextLaws.{ReadAs, PrintedText}
use Rattle.path_tree.proofs.FoundNames.{found_by_name}
use Rattle.path_tree.proofs.Printing.{list_fits}
use Rattle.path_tree.proofs.OneTree.{canonical_at, canonical_only}
use Rattle.path_tree.proofs.TokenLists.{one_list}
use Rattle.path_tree.proofs.Written.{without_constants, canonical_lexed}

lexemes_placed : (tokens : List Token) → map (λ (t : Placed). t.lexeme) (placed_tokens tokens) ≡ lexemes tokens
lexemes_placed [] = refl
lexemes_placed (t ∷ tokens) = ap (λ r. lexeme_of t.kind ∷ r) (lexemes_placed tokens)

lexemes_count : (tokens : List Token) → length (lexemes tokens) ≡ length tokens
lexemes_count tokens = length-map tokens (λ (t : Token). lexeme_of t.kind)

-- from lexemes that are the canonical ones and the end mark the path is read
read_as : (known : Known) (e : Path) (tokens : List Token) → IsPathTree e → AreDistinct known.operations → NamesBelow e (length known.operations) →
    lexemes tokens ≡ canonical_lexemes known.operations e ++ end_mark ∷ [] → ReadAs known tokens e
read_as known e tokens rules distinct below are =
    let n = length-append (canonical_lexemes known.operations e) (end_mark ∷ []) in
    let m = ap length are in
    let count = lexemes_count tokens in
    let long : length (canonical_lexemes known.operations e) ≡ length tokens - 1 = omega arith in
    let there = subst (λ w. IsPathAt known w 0 e (length (canonical_lexemes known.operations e))) (sym are) (canonical_at known e (end_mark ∷ []) rules distinct below) in (
      subst (λ last. IsPathAt known (lexemes tokens) 0 e last) long there,
      λ other last q.
          let k = canonical_only known e (end_mark ∷ []) rules distinct below other last (subst (λ w. IsPathAt known w 0 other last) are q) in
          (k.0, k.1 ∙ long),
    )

pub printed : PrintedText
printed names e rules distinct free below =
    let found = found_by_name (without_constants names) e distinct below in
    let l = canonical_lexed names e 32 free (list_fits (without_constants names) e 32 found rules.bounds rules.shallow) in (
      (l.all, l.tokens),
      λ constants tokens are.
          let same = one_list (canonical_bytes names e) (placed_tokens tokens) l.all are l.tokens in
          let known : Known = record { operations = names; constants = constants } in
          read_as known e tokens rules distinct below (sym (lexemes_placed tokens) ∙ ap (map (λ (t : Placed). t.lexeme)) same ∙ l.are),
    )
