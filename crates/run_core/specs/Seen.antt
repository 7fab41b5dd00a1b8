-- What a call has seen of its parts, by an assignment.
use Rattle.std.specs.Prelude.{◌≡◌, ℕ, ◌<◌, ◌⊎◌, List, Some, slice_get, slice_index}
use Rattle.value_core.specs.declared.kind.Kind.{Kind}
use Rattle.device_core.specs.declared.hand.Stamp.{Stamp}
use Rattle.device_core.specs.Device.{Assignment}
use Rattle.apply_core.specs.Fits.{IsNamed}
use Rattle.apply_core.specs.Pages.{page_bytes, HasFrame}
use Rattle.page_core.specs.Bytes.{IsPage}
use Rattle.page_core.specs.Cut.{lengths, AreFull}
use Rattle.page_core.specs.PartPins.{pin_at}
use Rattle.known_core.specs.Wanted.{IsWanted, IsFull}
use Rattle.page_core.specs.Given.{IsDone, IsRefused, IsDamaged}
use Rattle.run_core.specs.declared.judge.Verdict.{Verdict}
use Rattle.run_core.specs.declared.judge.Verdict.TheVariants.{Done, Refused, Needs, Damaged, Memory}
use Rattle.run_core.specs.Reads.{AreKnown, IsKnownPart, IsDue}
use Rattle.run_core.specs.Wholes.{AreChangesOf}
use Rattle.page_core.specs.CallPins.{Call}
use Rattle.run_core.specs.Read.{PinIsRead}
use Rattle.page_core.specs.Truths.{PinHolds}

-- a part is read page by page: an array of integers that the call reads, and each page of its pin is as long as a page
-- of such an array, but for the last
pub record IsPaged (call : Call) (part : ℕ) : Type 0 where
  pub wanted : IsWanted call.operation part
  pub pages : List Stamp
  pub pinned : pin_at call.pins part ≡ Some pages
  pub full : AreFull page_bytes (lengths pages)

-- this is the first page of a part that is read page by page: at first no further one is read
abbrev pub IsFront : Call → ℕ → ℕ → Type 0
IsFront call part page = IsPaged call part × (page ≡ 0)

-- These bytes were read of a part, up to this page: its first page, where it is read page by page, else all
-- that is under its pin.
pub record IsPartRead (a : Assignment) (call : Call) (part page : ℕ) (got : List ℕ) : Type 0 where
  pub first : IsFront call part page → (pages : List Stamp) (stamp : Stamp) → pin_at call.pins part ≡ Some pages →
      slice_get pages 0 ≡ Some stamp → IsPage a stamp got
  pub whole : (IsFront call part page → ⊥) → PinIsRead a call.pins part got

-- what was read of this part has the header of an array of so many integers, and its length
abbrev pub IsFramed : (count part : ℕ) → List (List ℕ) → Type 0
IsFramed count part read = (filled : List ℕ) × (slice_get read part ≡ Some filled) × HasFrame count filled

-- What a call has seen before this part: what was read of each part before it is what is known of the bytes under its
-- pin, and only of parts that are read page by page a page may be unknown. From this part on all pages count as
-- known, until it is read.
pub record IsSeenBefore (a : Assignment) (call : Call) (part : ℕ) (masks : List ℕ) (read : List (List ℕ)) : Type 0 where
  pub known : (p : ℕ) (kind : Kind) → IsNamed call.operation p kind → p < part →
      IsKnownPart masks read (PinHolds a call.pins) p kind
  pub split : (p : ℕ) → p < part → IsWanted call.operation p → IsPaged call p ⊎ IsFull masks p
  pub rest : (p : ℕ) → p < 16 → (p < part → IsWanted call.operation p → ⊥) → slice_index masks p ≡ 255

-- What a call has seen of all its parts.
pub record IsSeen (a : Assignment) (call : Call) (masks : List ℕ) (read : List (List ℕ)) : Type 0 where
  pub known : AreKnown masks call.operation read (PinHolds a call.pins)
  pub split : (p : ℕ) → IsWanted call.operation p → IsPaged call p ⊎ IsFull masks p
  pub rest : (p : ℕ) → p < 16 → (IsWanted call.operation p → ⊥) → slice_index masks p ≡ 255

-- What becomes of the body of a call, as said of the bytes under its pins; want of memory says nothing.
abbrev pub JudgedBy : Assignment → Call → List ℕ → List (List ℕ) → Verdict → Type 0
JudgedBy a call masks read (Done reply changes) =
    IsDone (PinHolds a call.pins) call.operation call.arguments reply
    (AreChangesOf masks call.operation read (PinHolds a call.pins) changes.items)
JudgedBy a call masks read (Refused word) = IsRefused (PinHolds a call.pins) call.operation call.arguments word
JudgedBy a call masks read (Needs p k) = IsDue masks (PinHolds a call.pins) call.operation call.arguments p k
JudgedBy a call masks read Damaged = IsDamaged (PinHolds a call.pins) call.operation
JudgedBy a call masks read Memory = Unit {0}
