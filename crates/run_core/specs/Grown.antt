-- What is known when a page more is read.
use Rattle.std.specs.Prelude.{◌≡◌, ◌≢◌, ℕ, List, length, Some, slice_get, slice_index}
use Rattle.value_core.specs.declared.kind.Elem.TheVariants as elem
use Rattle.value_core.specs.declared.kind.Kind.TheVariants as kind
use Rattle.value_bytes.specs.Laws.{AreBytes}
use Rattle.decl_core.specs.declared.object.Operation.{Operation}
use Rattle.apply_core.specs.Pages.{page_at, HasFrame}
use Rattle.apply_core.specs.Fits.{IsNamed}
use Rattle.known_core.specs.Filled.{IsFilled}
use Rattle.known_core.specs.Masks.{IsOneMore}
use Rattle.known_core.specs.Wanted.{IsWanted}
use Rattle.page_core.specs.Given.{IsDamaged}
use Rattle.run_core.specs.Verdicts.{ReadAs}
use Rattle.run_core.specs.Reads.{pages_of, AreKnown}

-- page k of part p was read into its place: nothing else of what was read is another
pub record IsReadInto (p k : ℕ) (read after : List (List ℕ)) (page : List ℕ) : Type 0 where
  pub filled : List ℕ
  pub was : slice_get read p ≡ Some filled
  pub fresh : List ℕ
  pub now : slice_get after p ≡ Some fresh
  pub others : (q : ℕ) → q ≢ p → slice_get after q ≡ slice_get read q
  pub bytes : AreBytes fresh
  pub long : length fresh ≡ length filled
  pub stands : page_at k fresh ≡ page
  pub pages : (j : ℕ) → j ≢ k → page_at j fresh ≡ page_at j filled

-- What was read stays known when a page of the whole bytes is read into its place, and is known with it.
abbrev pub KnownGrows : Type 0
KnownGrows =
    (operation : Operation) (old new : List ℕ) (p k : ℕ) (read after whole : List (List ℕ)) (bytes : List ℕ) →
    IsWanted operation p → IsOneMore old new p k → slice_get whole p ≡ Some bytes →
    IsReadInto p k read after (page_at k bytes)
    → AreKnown old operation read (ReadAs whole) → AreKnown new operation after (ReadAs whole)

-- Of an array of integers the first page is known where it was read.
abbrev pub FirstIsKnown : Type 0
FirstIsKnown =
    (masks : List ℕ) (p : ℕ) (filled whole : List ℕ) → slice_index masks p ≡ 1 → AreBytes filled → AreBytes whole →
    length whole ≡ length filled → page_at 0 whole ≡ page_at 0 filled → IsFilled (pages_of masks p) filled whole

-- Where the first page and the length show no frame, the part is damaged, whatever stands in its other pages.
abbrev pub MissIsDamaged : Type 0
MissIsDamaged =
    (operation : Operation) (p n : ℕ) (filled whole : List ℕ) (wholes : List (List ℕ)) →
    IsNamed operation p (kind.Array n elem.Integer) → ReadAs wholes p whole → length whole ≡ length filled →
    page_at 0 whole ≡ page_at 0 filled → (HasFrame n filled → ⊥) → IsDamaged (ReadAs wholes) operation
