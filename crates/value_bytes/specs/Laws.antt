-- Laws of spellings.
use Rattle.std.specs.Prelude.{◌≡◌, ℕ, ◌+◌, ◌*◌, ◌<◌, List, Some, slice_get, slice_index, take, drop}
use Rattle.std.specs.Int.{w32, to_be_bytes}
use Rattle.value_core.specs.declared.datum.Datum.{Datum}
use Rattle.value_core.specs.declared.datum.Datum.TheVariants as datum
use Rattle.value_core.specs.declared.kind.Elem.TheVariants as elem
use Rattle.value_core.specs.declared.kind.Kind.{Kind}
use Rattle.value_core.specs.declared.format.Format.{Format}
use Rattle.value_core.specs.Contents.{Contents, array, IsContentsIn}
use Rattle.value_bytes.specs.Spelling.{SpellsIn, spelling_in}

-- no two values share a spelling, in one kind or in two, in one format or in two
abbrev pub SpellingUnique : Type 0
SpellingUnique =
    (f g : Format) (bytes : List ℕ) (k l : Kind) (first second : Contents) → SpellsIn f bytes k first →
    SpellsIn g bytes l second → (f ≡ g) × (first ≡ second)

-- the integer at place i of an array stands in the four bytes from 4 + 4 * i on
abbrev pub IntegersStandInPlace : Type 0
IntegersStandInPlace =
    (f : Format) (xs : List Datum) (i n : ℕ) → IsContentsIn f (array elem.Integer xs) →
    slice_get xs i ≡ Some (datum.Integer n) →
    take 4 (drop (4 + 4 * i) (spelling_in f (array elem.Integer xs))) ≡ to_be_bytes w32 n

-- each of these numbers is a byte
abbrev pub AreBytes : List ℕ → Type 0
AreBytes bytes = (i : ℕ) → slice_index bytes i < 256

-- a spelling is bytes
abbrev pub SpellingIsBytes : Type 0
SpellingIsBytes = (f : Format) (value : Contents) → IsContentsIn f value → AreBytes (spelling_in f value)
