-- The operations that words name.
use Rattle.std.specs.Prelude.{◌≡◌, ◌≢◌, ℕ, ◌<◌, List, [], length, All, slice_index_or}
use Rattle.std.specs.Str.{str_to_ascii_lowercase}

-- a word is the name of this operation, in any case
abbrev pub IsNamed : List (List ℕ) → ℕ → List ℕ → Type 0
IsNamed names op word = (op < length names) × (slice_index_or names op [] ≡ str_to_ascii_lowercase word)

-- a word is the name of no operation
abbrev pub IsUnnamed : List (List ℕ) → List ℕ → Type 0
IsUnnamed names word = All (λ name. name ≢ str_to_ascii_lowercase word) names
