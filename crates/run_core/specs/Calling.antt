-- The device calls of a step.
use Rattle.std.specs.Prelude.{◌≡◌, ◌≢◌, ℕ, ◌⊎◌, List, [], ◌∷◌, ◌++◌, Option, Some, None, Result, Ok, Err, slice_get}
use Rattle.std.specs.Result.{IsErr}
use Rattle.device_core.specs.declared.hand.HandFault.{HandFault}
use Rattle.device_core.specs.declared.hand.Pen.{Pen}
use Rattle.device_core.specs.declared.hand.Stamp.{Stamp}
use Rattle.device_core.specs.Made.{Made, creates, appends, seals, discards, reads}
use Rattle.page_core.specs.PartPins.{pin_at}
use Rattle.page_core.specs.CallPins.{Call}
use Rattle.run_core.specs.declared.phase.Phase.{Phase}
use Rattle.run_core.specs.declared.phase.Phase.TheVariants.{Reading, Paging, Creating, Appending, Sealing, Ended}
use Rattle.run_core.specs.Phases.{failure_of}
use Rattle.apply_core.specs.declared.reply.Failure.TheVariants as failures
use Rattle.apply_core.specs.declared.reply.Reply.{Reply}
use Rattle.apply_core.specs.declared.reply.Reply.TheVariants as replies

-- a call was made of the file of this number; where it failed, that file was given up after it
abbrev pub MakesOrGivesUp : {H : Type 0} → (H → Made → H → Type 0) → ℕ → Made → Type 0 → H → H → Type 0
MakesOrGivesUp {H} makes number call failed old new =
    makes old call new ⊎ (failed × ((between : H) × (pen : Pen) × (pen.number ≡ number) × makes old call between
    × makes between (discards pen) new))

-- this is the file of the page of this place of a part's pin
abbrev pub IsStampAt : Call → ℕ → ℕ → Stamp → Type 0
IsStampAt call part page stamp =
    (pages : List Stamp) × (pin_at call.pins part ≡ Some pages) × (slice_get pages page ≡ Some stamp)

-- how a read that was answered so leaves a run: where it failed the run has, and for that fault
abbrev pub IsReadAnswered : Result (Unit {0}) HandFault → Option Reply → Type 0
IsReadAnswered (Ok u) ending = ending ≢ Some (replies.Failed failures.Device)
IsReadAnswered (Err fault) ending = ending ≡ Some (replies.Failed (failure_of fault))

-- how a create or an append that was answered so leaves a run: it goes on, or it has failed for that fault
abbrev pub IsAnswered : {X : Type 0} → Result X HandFault → Option Reply → Type 0
IsAnswered (Ok x) ending = ending ≡ None
IsAnswered (Err fault) ending = ending ≡ Some (replies.Failed (failure_of fault))

-- How a seal that was answered so leaves a run that had sealed these files before: it has sealed one more, or it has
-- failed for that fault and keeps those of before.
abbrev pub IsSealAnswered : List Stamp → Result Stamp (Pen × HandFault) → Option Reply → List Stamp → Type 0
IsSealAnswered before (Ok stamp) ending sealed = sealed ≡ before ++ stamp ∷ []
IsSealAnswered before (Err e) ending sealed = (ending ≡ Some (replies.Failed (failure_of e.1))) × (sealed ≡ before)

-- a page of a part's pin was read, or none, since memory for its bytes was refused
abbrev pub MakesRead : {H : Type 0} → (H → Made → H → Type 0) → Call → ℕ → ℕ → Option Reply → H → H → Type 0
MakesRead makes call part page ending old new =
    ((ending ≡ Some (replies.Failed failures.Memory)) × (new ≡ old))
    ⊎ ((stamp : Stamp) × IsStampAt call part page stamp
    × ((bytes : List ℕ) × (answer : Result (Unit {0}) HandFault) × makes old (reads stamp 0 bytes answer) new
    × IsReadAnswered answer ending))

abbrev pub MakesCreate : {H : Type 0} → (H → Made → H → Type 0) → Option Reply → H → H → Type 0
MakesCreate makes ending old new =
    (answer : Result Pen HandFault) × makes old (creates answer) new × IsAnswered answer ending

abbrev pub MakesAppend : {H : Type 0} → (H → Made → H → Type 0) → ℕ → Option Reply → H → H → Type 0
MakesAppend makes number ending old new =
    (bytes : List ℕ) × (answer : Result (Unit {0}) HandFault)
    × MakesOrGivesUp makes number (appends number bytes answer) (IsErr answer) old new × IsAnswered answer ending

abbrev pub MakesSeal : {H : Type 0} → (H → Made → H → Type 0) → Pen → List Stamp → Option Reply → List Stamp → H → H →
    Type 0
MakesSeal makes pen before ending sealed old new =
    (answer : Result Stamp (Pen × HandFault))
    × MakesOrGivesUp makes pen.number (seals pen answer) (IsErr answer) old new
    × IsSealAnswered before answer ending sealed

-- What a step did to a hand, and what it left of the run by the answer: it made the call that is next in this phase, of
-- the file of that phase. A run that has ended made none.
abbrev pub StepMakes : {H : Type 0} → (H → Made → H → Type 0) → Call → Phase → Option Reply → List Stamp → H → H →
    Type 0
StepMakes makes call (Reading r) ending sealed old new = MakesRead makes call r.part r.page ending old new
StepMakes makes call (Paging m) ending sealed old new = MakesRead makes call m.part m.page ending old new
StepMakes makes call (Creating plan) ending sealed old new = MakesCreate makes ending old new
StepMakes makes call (Appending plan pen) ending sealed old new = MakesAppend makes pen.number ending old new
StepMakes makes call (Sealing plan pen) ending sealed old new =
    MakesSeal makes pen plan.pages.sealed.items ending sealed old new
StepMakes makes call (Ended reply left) ending sealed old new = new ≡ old
