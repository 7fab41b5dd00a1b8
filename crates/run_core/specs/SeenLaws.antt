-- Laws of what a call has seen.
use Rattle.std.specs.Prelude.{◌≡◌, ℕ, ◌<◌, List, Option, slice_index}
use Rattle.value_core.specs.declared.datum.Datum.{Datum}
use Rattle.decl_core.specs.Bodies.{body_of}
use Rattle.device_core.specs.declared.hand.Stamp.{Stamp}
use Rattle.device_core.specs.Device.{Assignment}
use Rattle.page_core.specs.declared.plan.PageWrite.{PageWrite}
use Rattle.run_core.specs.declared.judge.Change.{Change}
use Rattle.page_core.specs.Given.{IsDone}
use Rattle.run_core.specs.Given.{AreChanges}
use Rattle.run_core.specs.Written.{WritesInOrder, parts_changed}
use Rattle.run_core.specs.Wholes.{AreChangesOf}
use Rattle.page_core.specs.CallPins.{Call, HasPins, IsNext, ReadsNone}
use Rattle.run_core.specs.CallPlanned.{IsPlanned}
use Rattle.run_core.specs.Read.{AreRead}
use Rattle.page_core.specs.Truths.{PinHolds, PinsAreWhole}
use Rattle.run_core.specs.Seen.{IsSeen, IsSeenBefore}

-- Nothing is seen before the first part, and all pages count as known.
abbrev pub NoneIsSeen : Type 0
NoneIsSeen =
    (a : Assignment) (call : Call) (masks : List ℕ) (read : List (List ℕ)) →
    ((p : ℕ) → p < 16 → slice_index masks p ≡ 255) → IsSeenBefore a call 0 masks read

-- What is seen before one part is seen before the next one that the call reads.
abbrev pub NextIsSeen : Type 0
NextIsSeen =
    (a : Assignment) (call : Call) (from part : ℕ) (masks : List ℕ) (read : List (List ℕ)) → IsNext call from part →
    IsSeenBefore a call from masks read → IsSeenBefore a call part masks read

-- Where the call reads no further part, all is seen.
abbrev pub AllIsSeen : Type 0
AllIsSeen =
    (a : Assignment) (call : Call) (from : ℕ) (masks : List ℕ) (read : List (List ℕ)) → ReadsNone call from →
    IsSeenBefore a call from masks read → IsSeen a call masks read

-- A plan of what a body changed, and the bytes under the pins of which it is one: what the body was
-- given, and what it gave.
pub record IsPlanOf (a : Assignment) (call : Call) (reply : Option Datum) (counts : List ℕ) (stamps : List Stamp)
    (writes : List PageWrite) (gone : List Stamp) : Type 0 where
  pub read : List (List ℕ)
  pub changes : List Change
  pub known : AreRead a call read
  pub order : WritesInOrder (body_of call.operation).statements 0 (parts_changed changes)
  pub given : IsDone (PinHolds a call.pins) call.operation call.arguments reply (AreChanges changes)
  pub planned : IsPlanned call.pins read changes counts stamps writes gone

-- A plan of what was seen is a plan of the bytes under the pins: a page that was not read is as it was.
abbrev pub PlansAreWhole : Type 0
PlansAreWhole =
    (a : Assignment) (call : Call) (masks : List ℕ) (read : List (List ℕ)) (reply : Option Datum)
    (changes : List Change) (counts : List ℕ) (stamps : List Stamp) (writes : List PageWrite) (gone : List Stamp) →
    PinsAreWhole a call → HasPins call.operation call.pins → IsSeen a call masks read →
    WritesInOrder (body_of call.operation).statements 0 (parts_changed changes) →
    IsDone (PinHolds a call.pins) call.operation call.arguments reply
    (AreChangesOf masks call.operation read (PinHolds a call.pins) changes) →
    IsPlanned call.pins read changes counts stamps writes gone →
    IsPlanOf a call reply counts stamps writes gone
