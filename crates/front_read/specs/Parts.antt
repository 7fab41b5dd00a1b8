-- The values of parts, as words tell them.
use Rattle.std.specs.Prelude.{◌≡◌, ℕ, List, [], ◌∷◌, Option, Some, IfSome}
use Rattle.hex.specs.Hex.{encode_lower}
use Rattle.value_core.specs.declared.kind.Kind.{Kind}
use Rattle.value_core.specs.Contents.{Contents, IsContents, kind_of}
use Rattle.value_bytes.specs.Spelling.{spelling}
use Rattle.word_core.specs.Text.{part_words}
use Rattle.front_read.specs.Rows.{IsRow}

abbrev pub IsValueOf : Kind → Contents → Type 0
IsValueOf kind value = IsContents value × (kind_of value ≡ kind)

-- the value of a kind was found that a word tells, where it tells one
abbrev pub IsHexOf : Kind → List ℕ → Option Contents → Type 0
IsHexOf kind word found =
    ((value : Contents) → IsValueOf kind value → word ≡ encode_lower (spelling value) → found ≡ Some value)
    × IfSome found (IsValueOf kind)

-- the rows of these parts, one for each, with these values
abbrev pub AreParts : List (List ℕ × Kind) → List ℕ → List Contents → List ℕ → Type 0
AreParts [] text [] rest = text ≡ rest
AreParts [] text (value ∷ values) rest = ⊥
AreParts (part ∷ parts) text [] rest = ⊥
AreParts (part ∷ parts) text (value ∷ values) rest =
    (mid : List ℕ) × IsRow (IsValueOf part.1) (part_words part.0) text value mid × AreParts parts mid values rest
