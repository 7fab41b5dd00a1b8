-- Lines that are paths.
use Rattle.std.specs.Prelude.{◌≡◌, ◌≢◌, ℕ, ◌≤◌, ◌⊎◌, List, [], ◌∷◌, length, map, drop}
use Rattle.path_tree.specs.Path.{Path}
use Rattle.path_tree.specs.declared.token.Symbol.TheVariants.{Semicolon}
use Rattle.path_tree.specs.Lexeme.{Lexeme, symbol, end_mark}
use Rattle.path_tree.specs.Tokens.{Placed, AreTokens}
use Rattle.path_tree.specs.Known.{known_with}
use Rattle.path_tree.specs.Grammar.{IsPathAt}

-- nothing stands behind a path, or one semicolon
abbrev pub IsPathEnd : List Lexeme → Type 0
IsPathEnd ws = (ws ≡ end_mark ∷ []) ⊎ (ws ≡ symbol Semicolon ∷ end_mark ∷ [])

-- the place of what follows a path: of the first token behind it, or behind the semicolon there
pub data StandsBehind : List Placed → ℕ → Type 0 where
  next : {t : Placed} {more : List Placed} → t.lexeme ≢ symbol Semicolon → StandsBehind (t ∷ more) t.start
  behind_semicolon : {s t : Placed} {more : List Placed} → s.lexeme ≡ symbol Semicolon →
      StandsBehind (s ∷ t ∷ more) t.start

abbrev pub lexemes_of : List Placed → List Lexeme
lexemes_of all = map (λ t. t.lexeme) all

-- a line of at most 65,536 bytes is a path of these operations, alone or before one semicolon
pub record IsPathLine (names : List (List ℕ)) (line : List ℕ) (tree : Path) : Type 0 where
  pub short : length line ≤ 65536
  pub all : List Placed
  pub tokens : AreTokens line all
  pub to : ℕ
  pub stands : IsPathAt (known_with [] names) (lexemes_of all) 0 tree to
  pub rest : IsPathEnd (drop to (lexemes_of all))
