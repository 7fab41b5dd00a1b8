-- What a run of `paths` was told by the lines so far.
use Rattle.std.specs.Prelude.{◌≡◌, ◌≢◌, ℕ, ◌≤◌, ◌⊎◌, Bool, true, false, List, [], length, map, All, AllPairs}
use Rattle.std.specs.Str.{str_to_ascii_lowercase}
use Rattle.path_tree.specs.Path.{Path}
use Rattle.path_tree.specs.Trace.{Event}
use Rattle.path_tree.specs.declared.token.Symbol.{Symbol}
use Rattle.path_tree.specs.Identifier.{IsIdentifier}
use Rattle.path_tree.specs.Lexeme.{symbol_text}
use Rattle.path_tree.specs.Tokens.{IsReserved}
use Rattle.path_count.specs.Named.{IsUnnamed}
use Rattle.path_count.specs.Asked.{Asked, operations, path, start, finish, other}

-- the operations' names in lower case (none before line 1), the paths in their order, the events,
-- the newest first, and whether a start or a finish has come
pub record Told : Type 0 where
  pub names : List (List ℕ)
  pub paths : List Path
  pub trace : List Event
  pub begun : Bool

abbrev pub nothing_told : Told
nothing_told = record { names = []; paths = []; trace = []; begun = false }

-- an identifier that is no reserved word
abbrev pub IsOperationName : List ℕ → Type 0
IsOperationName word =
    IsIdentifier word × ((s : Symbol) → IsReserved s → str_to_ascii_lowercase word ≢ symbol_text s)

-- 1 to 32 identifiers that differ and are no reserved words
pub record AreOperations (ws : List (List ℕ)) : Type 0 where
  pub some : 1 ≤ length ws
  pub few : length ws ≤ 32
  pub each : All IsOperationName ws
  pub differ : AllPairs (λ a b. a ≢ b) (map str_to_ascii_lowercase ws)

-- a line that has no place where it stands
abbrev pub IsBadLine : Told → Asked → Type 0
IsBadLine told (operations ws) = (told.names ≢ []) ⊎ (AreOperations ws → ⊥)
IsBadLine told path = (told.names ≡ []) ⊎ ((told.begun ≡ true) ⊎ (16 ≤ length told.paths))
IsBadLine told (start word) = IsUnnamed told.names word
IsBadLine told (finish word) = IsUnnamed told.names word
IsBadLine told other = Unit {0}
