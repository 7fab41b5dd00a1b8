-- Laws of the bytes of arrays of integers.
use Rattle.std.specs.Prelude.{◌≡◌, ◌↔◌, ℕ, ◌≤◌, List, length, slice_get}
use Rattle.value_core.specs.declared.datum.Datum.{Datum}
use Rattle.value_core.specs.declared.kind.Elem.TheVariants as elem
use Rattle.value_core.specs.declared.kind.Kind.TheVariants as kind
use Rattle.value_core.specs.Limits.{most_elements}
use Rattle.value_core.specs.Contents.{Contents, array, IsContents}
use Rattle.value_bytes.specs.Spelling.{Spells, spelling}
use Rattle.value_bytes.specs.Laws.{AreBytes}
use Rattle.apply_core.specs.Pages.{HasFrame, page_at, page_of}

-- Behind the header of an array of integers all bytes are integers: whatever they are, they spell an array.
abbrev pub AllBytesSpell : Type 0
AllBytesSpell =
    (n : ℕ) (bytes : List ℕ) → n ≤ most_elements → AreBytes bytes → HasFrame n bytes →
    (xs : List Datum) × Spells bytes (kind.Array n elem.Integer) (array elem.Integer xs)

-- What spells an array of n integers has its frame, and no more than the most elements.
abbrev pub FrameIsDue : Type 0
FrameIsDue =
    (n : ℕ) (bytes : List ℕ) (value : Contents) → Spells bytes (kind.Array n elem.Integer) value →
    HasFrame n bytes × (n ≤ most_elements)

-- Two arrays of as many integers have the same page k exactly where they have the same elements in it.
abbrev pub PagesTell : Type 0
PagesTell =
    (k : ℕ) (xs ys : List Datum) → IsContents (array elem.Integer xs) → IsContents (array elem.Integer ys) →
    length xs ≡ length ys →
    (page_at k (spelling (array elem.Integer xs)) ≡ page_at k (spelling (array elem.Integer ys)))
    ↔ ((i : ℕ) → page_of i ≡ k → slice_get xs i ≡ slice_get ys i)
