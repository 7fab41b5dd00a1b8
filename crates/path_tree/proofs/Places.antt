-- A whole path among tokens.
use Rattle.std.proofs.Common.{◌≡◌, ℕ, ◌-◌, ◌<◌, ◌≤◌, List, ◌∷◌, length, drop, Some, refl, sym, ap, subst, ◌∙◌, arith}
use Rattle.std.proofs.lemmas.List.{length-append, length-drop, length-map, drop-map}
use Rattle.path_tree.specs.declared.token.Token.{Token}
use Rattle.path_tree.specs.declared.token.Symbol.TheVariants.{End}
use Rattle.path_tree.specs.declared.path_fault.PathFault.{PathFault}
use Rattle.path_tree.specs.declared.path_fault.PathFault.TheVariants as faults
use Rattle.path_tree.specs.Path.{Path}
use Rattle.path_tree.specs.Lexeme.{Lexeme, lexeme_of, lexemes, symbol}
use Rattle.path_tree.specs.Limits.{IsPathTree, BoundsFit, levels}
use Rattle.path_tree.specs.Known.{Known}
use Rattle.path_tree.specs.Reading.{Fails, path_at}
use Rattle.path_tree.specs.Grammar.{list_lexemes, IsPathAt}
use Rattle.path_tree.specs.Names.{NamesBelow}
use Rattle.path_tree.proofs.Below.{tree_below}
use Rattle.path_tree.proofs.Levels.{tree_bounded, tree_shallow}
use Rattle.path_tree.proofs.Whole.{path_found, stands_at, is_read}

lexemes_behind : (tokens : List Token) (from : ℕ) → drop from (lexemes tokens) ≡ lexemes (drop from tokens)
lexemes_behind tokens from = drop-map (λ (t : Token). lexeme_of t.kind) from tokens

lexemes_length : (tokens : List Token) → length (lexemes tokens) ≡ length tokens
lexemes_length tokens = length-map tokens (λ (t : Token). lexeme_of t.kind)

pub place_within : (known : Known) (most from : ℕ) (tokens rest : List Token) (e : Path) → path_at known most (lexemes (drop from tokens)) ≡ Some (e, lexemes rest) → length rest ≤ length tokens
place_within known most from tokens rest e h =
    let f = path_found known most (lexemes (drop from tokens)) e (lexemes rest) h in
    let total = ap length f.stands in
    let parts = length-append (list_lexemes f.spelt) (symbol End ∷ lexemes rest) in
    let a = lexemes_length (drop from tokens) in
    let b = lexemes_length rest in
    let d = length-drop from tokens in
    omega arith

pub place_tree : (known : Known) (most : ℕ) (ws : List Lexeme) (e : Path) (rest : List Lexeme) → path_at known most ws ≡ Some (e, rest) → IsPathTree e
place_tree known most ws e rest h =
    let f = path_found known most ws e rest h in
    record {
      once = f.once;
      few = f.few;
      bounds = subst BoundsFit (sym f.is) (tree_bounded known f.spelt 32 f.fits);
      shallow = subst (λ e. levels e ≤ 32) (sym f.is) (tree_shallow known f.spelt 32 f.fits);
    }

pub place_found : (known : Known) (most from : ℕ) (tokens rest : List Token) (e : Path) → path_at known most (lexemes (drop from tokens)) ≡ Some (e, lexemes rest) → IsPathAt known (lexemes tokens) from e (length tokens - length rest)
place_found known most from tokens rest e h =
    let a = lexemes_length tokens in
    let b = lexemes_length rest in
    stands_at known most (lexemes tokens) from (length tokens - length rest) e (lexemes rest) (ap (path_at known most) (lexemes_behind tokens from) ∙ h) (omega arith)

read_there : (known : Known) (most from to : ℕ) (tokens : List Token) (e : Path) → length tokens < most → IsPathAt known (lexemes tokens) from e to → path_at known most (lexemes (drop from tokens)) ≡ Some (e, drop to (lexemes tokens))
read_there known most from to tokens e long p =
    let a = lexemes_length tokens in
    ap (path_at known most) (sym (lexemes_behind tokens from)) ∙ is_read known most (lexemes tokens) from to e p (omega arith)

same_pair : (x y : Path × List Lexeme) → Some x ≡ Some y → x ≡ y
same_pair x y h = cc

pub place_only : (known : Known) (most from : ℕ) (tokens rest : List Token) (e : Path) → length tokens < most → path_at known most (lexemes (drop from tokens)) ≡ Some (e, lexemes rest) →
    (other : Path) (to : ℕ) → IsPathAt known (lexemes tokens) from other to → (other ≡ e) × (to ≡ length tokens - length rest)
place_only known most from tokens rest e long h other to p =
    let k = same_pair (other, drop to (lexemes tokens)) (e, lexemes rest) (sym (read_there known most from to tokens other long p) ∙ h) in
    let within = p.within in
    let a = lexemes_length tokens in
    let b = lexemes_length rest in
    let d = length-drop to (lexemes tokens) in
    let same = ap (λ (y : Path × List Lexeme). length y.1) k in
    (ap (λ y. y.0) k, omega arith)

only_memory : (error : PathFault) (y : Path × List Lexeme) → Fails error (Some y) → error ≡ faults.Memory
only_memory faults.Memory y h = refl
only_memory faults.TooMany y h = absurd cc
only_memory (faults.Expected at) y h = absurd cc
only_memory (faults.UnknownName at) y h = absurd cc
only_memory (faults.RepeatedName at) y h = absurd cc
only_memory (faults.BadBound at) y h = absurd cc
only_memory (faults.TooDeep at) y h = absurd cc

-- where a path stands, no fault is told but that memory ran out
pub place_fails : (error : PathFault) (known : Known) (most from : ℕ) (tokens : List Token) → length tokens < most → Fails error (path_at known most (lexemes (drop from tokens))) →
    (other : Path) (to : ℕ) → IsPathAt known (lexemes tokens) from other to → error ≡ faults.Memory
place_fails error known most from tokens long h other to p =
    only_memory error (other, drop to (lexemes tokens)) (subst (λ r. Fails error r) (read_there known most from to tokens other long p) h)

-- the operations of a path that stands somewhere have names
pub place_below : (known : Known) (ws : List Lexeme) (from : ℕ) (e : Path) (to : ℕ) → IsPathAt known ws from e to → NamesBelow e (length known.operations)
place_below known ws from e to p = subst (λ e. NamesBelow e (length known.operations)) (sym p.is) (tree_below known p.text 32 p.fits)

-- the same, with the rest as what stands behind the end
pub place_read : (known : Known) (most from : ℕ) (tokens rest : List Token) (e : Path) → length tokens < most → path_at known most (lexemes (drop from tokens)) ≡ Some (e, lexemes rest) →
    path_at known most (drop from (lexemes tokens)) ≡ Some (e, drop (length tokens - length rest) (lexemes tokens))
place_read known most from tokens rest e long h =
    ap (path_at known most) (lexemes_behind tokens from) ∙ read_there known most from (length tokens - length rest) tokens e long (place_found known most from tokens rest e h)
