-- Laws of boards.
use Rattle.std.specs.Prelude.{◌≡◌, ◌≢◌, ℕ, ◌<◌, ◌⊎◌, List, [], length, slice_get, Some, None}
use Rattle.decl_core.specs.Bodies.{body_of}
use Rattle.decl_core.specs.Touched.{Reads, Writes, Conflict}
use Rattle.device_core.specs.declared.hand.Stamp.{Stamp}
use Rattle.device_core.specs.Device.{Assignment}
use Rattle.page_core.specs.PartPins.{PartPin, pin_at}
use Rattle.apply_core.specs.declared.reply.Reply.{Reply}
use Rattle.page_core.specs.CallPins.{Call}
use Rattle.page_core.specs.Truths.{IsTrueOf}
use Rattle.page_core.specs.Lists.{Every, Among}
use Rattle.page_core.specs.ObjectCalls.{WaitingCall, RunningCall, Noted}
use Rattle.board_core.specs.Board.{Board, Rests, Admits, entry_of, ended}
use Rattle.board_core.specs.Started.{HasStarted}
use Rattle.board_core.specs.Outcomes.{IsOf}
use Rattle.board_core.specs.Chain.{IsTrueEntry, news_of}
use Rattle.board_core.specs.Free.{HasFile, IsIn, IsNeeded, Picks}
use Rattle.board_core.specs.Sound.{IsSound}

-- Two calls that run at once have operations that do not conflict.
abbrev pub RunningNeverConflict : Type 0
RunningNeverConflict =
    (b : Board) → IsSound b → (r s : RunningCall) → Among r b.running → Among s b.running → r.number ≢ s.number →
    Conflict (body_of r.call.operation).statements (body_of s.call.operation).statements → ⊥

-- The published pin of each part that a running call reads or writes is the one that it took.
abbrev pub PinsStay : Type 0
PinsStay = (b : Board) → IsSound b → (r : RunningCall) → Among r b.running → (p : ℕ) →
    (Reads (body_of r.call.operation).statements p → slice_get b.pins p ≡ pin_at r.pins p)
    × (Writes (body_of r.call.operation).statements p → slice_get b.pins p ≡ pin_at r.pins p)

-- No file that is picked is needed.
abbrev pub PickedAreFree : Type 0
PickedAreFree =
    (pins : List (List Stamp)) (stamps all : List Stamp) (running : List RunningCall) →
    Picks (IsNeeded pins running) [] stamps all → Every (λ s. IsNeeded pins running s.number → ⊥) all

-- An outcome is true only if the entry made of it is.
abbrev pub TruthIsNoted : Type 0
TruthIsNoted =
    (a : Assignment) (call : Call) (r : RunningCall) (reply : Reply) (news : List PartPin) → IsOf call r →
    IsTrueOf a call reply news → IsTrueEntry a (entry_of r reply news)

-- Admission starts calls that waited, and changes nothing else.
abbrev pub AdmissionStarts : Type 0
AdmissionStarts = (b after : Board) → Admits b after → (ones : List WaitingCall) × HasStarted b ones after

-- After admission no waiting call may start.
abbrev pub AdmissionRests : Type 0
AdmissionRests = (b after : Board) → Admits b after → Rests after

-- What is needed on a sound board is published: what a running call reads is the pin that is published.
abbrev pub NeededIsPublished : Type 0
NeededIsPublished = (b : Board) → IsSound b → (number : ℕ) → IsNeeded b.pins b.running number → IsIn number b.pins

-- On a sound board those that are picked as not published are picked as not needed.
abbrev pub PublishedArePicked : Type 0
PublishedArePicked =
    (b : Board) → IsSound b → (stamps all : List Stamp) → Picks (λ number. IsIn number b.pins) [] stamps all →
    Picks (IsNeeded b.pins b.running) [] stamps all

-- After a finish on a sound board the published pin of each part is the new one of the call that finished, where it has
-- one, and else the one that was published before.
abbrev pub PinsAreNewOrOld : Type 0
PinsAreNewOrOld =
    (b after : Board) → IsSound b → (e : Noted) → Admits (ended b e) after → (p : ℕ) → p < length b.object.parts.items →
    ((pages : List Stamp) → pin_at (news_of e) p ≡ Some pages → slice_get after.pins p ≡ Some pages)
    × (pin_at (news_of e) p ≡ None → slice_get after.pins p ≡ slice_get b.pins p)

-- Each file of stamps of which some are picked is that of one that is picked, or is needed.
abbrev pub LeftOutAreNeeded : Type 0
LeftOutAreNeeded =
    (pins : List (List Stamp)) (stamps all : List Stamp) (running : List RunningCall) →
    Picks (IsNeeded pins running) [] stamps all →
    Every (λ s. HasFile s.number all ⊎ IsNeeded pins running s.number) stamps
