-- Laws of the texts of paths.
use Rattle.std.specs.Prelude.{◌≡◌, ℕ, ◌-◌, ◌<◌, List, ◌++◌, length, drop, Some}
use Rattle.path_tree.specs.declared.token.Token.{Token}
use Rattle.path_tree.specs.Path.{Path}
use Rattle.path_tree.specs.Names.{NamesBelow}
use Rattle.path_tree.specs.Limits.{IsPathTree}
use Rattle.path_tree.specs.Lexeme.{Lexeme, lexemes}
use Rattle.path_tree.specs.Known.{Known}
use Rattle.path_tree.specs.Reading.{path_at}
use Rattle.path_tree.specs.Grammar.{IsPathAt}
use Rattle.path_tree.specs.Canonical.{canonical_lexemes, canonical_bytes, AreDistinct}
use Rattle.path_tree.specs.Tokens.{Placed, placed_tokens, AreTokens}
use Rattle.path_tree.specs.Written.{AreFreeNames}

-- at one place no two paths stand, nor one path with two ends
abbrev pub OneTree : Type 0
OneTree =
    (known : Known) (ws : List Lexeme) (from to last : ℕ) (e other : Path) → IsPathAt known ws from e to →
    IsPathAt known ws from other last → (other ≡ e) × (last ≡ to)

-- what is read from left to right is a path that stands in front, and behind it the rest; and what
-- stands in front is read
abbrev pub PathsAreRead : Type 0
PathsAreRead = (known : Known) (most : ℕ) (ws : List Lexeme) (e : Path) →
    ((rest : List Lexeme) → path_at known most ws ≡ Some (e, rest) →
    IsPathAt known ws 0 e (length ws - length rest) × (drop (length ws - length rest) ws ≡ rest)
    × (length rest < length ws))
    × ((to : ℕ) → length ws < most → IsPathAt known ws 0 e to → path_at known most ws ≡ Some (e, drop to ws))

-- the canonical text of a path derives it and no other, whatever stands behind it
abbrev pub CanonicalText : Type 0
CanonicalText =
    (known : Known) (e : Path) (rest : List Lexeme) → IsPathTree e → AreDistinct known.operations →
    NamesBelow e (length known.operations) →
    let ws : List Lexeme = canonical_lexemes known.operations e in
    IsPathAt known (ws ++ rest) 0 e (length ws)
    × ((other : Path) (last : ℕ) → IsPathAt known (ws ++ rest) 0 other last → (other ≡ e) × (last ≡ length ws))

-- from these tokens this path is read, up to the end mark, and no other
abbrev pub ReadAs : Known → List Token → Path → Type 0
ReadAs known tokens e =
    IsPathAt known (lexemes tokens) 0 e (length tokens - 1)
    × ((other : Path) (last : ℕ) → IsPathAt known (lexemes tokens) 0 other last →
    (other ≡ e) × (last ≡ length tokens - 1))

-- whatever tokens are those of these bytes, this path is read from them and no other, whatever constants there are
abbrev pub Derives : List (List ℕ) → List ℕ → Path → Type 0
Derives names bytes e =
    (constants : List (List ℕ × ℕ)) (tokens : List Token) → AreTokens bytes (placed_tokens tokens) →
    ReadAs (record { operations = names; constants = constants }) tokens e

-- the bytes of the canonical text of a path have tokens, and these derive the path and no other
abbrev pub PrintedText : Type 0
PrintedText =
    (names : List (List ℕ)) (e : Path) → IsPathTree e → AreDistinct names → AreFreeNames names →
    NamesBelow e (length names) →
    ((all : List Placed) × AreTokens (canonical_bytes names e) all) × Derives names (canonical_bytes names e) e
