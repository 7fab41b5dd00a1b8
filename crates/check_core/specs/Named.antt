-- The object that a script names.
use Rattle.std.specs.Prelude.{◌≡◌, ℕ, ◌≤◌, Option, List, length, take}
use Rattle.std.specs.Io.KnownBytes.{IsAtEnd}
use Rattle.std.specs.Str.{str_to_ascii_lowercase}
use Rattle.value_core.specs.Runs.{NoLineFeed}
use Rattle.word_core.specs.First.{IsFirstObject}

-- the first line of a text has at most 65,536 bytes, its end counted
abbrev pub HasShortLine : List ℕ → Type 0
HasShortLine text = NoLineFeed (take 65536 text) → length text ≤ 65536

-- the first line of a text is `object NAME`, and not too long; the name is kept in lower case
abbrev pub NamesObject : List ℕ → List ℕ → Type 0
NamesObject text name =
    HasShortLine text × ((written : List ℕ) × IsFirstObject text written × (name ≡ str_to_ascii_lowercase written))

-- These first bytes of a text have its first line, or they are more than it may have, or nothing is left of the text.
abbrev pub IsHead : List ℕ → Option (List ℕ) → Type 0
IsHead head rest = NoLineFeed head → length head ≤ 65536 → IsAtEnd rest
