-- Where a run stands, and what it has found, by an assignment.
use Rattle.std.specs.Prelude.{◌≡◌, ℕ, ◌+◌, ◌-◌, ◌*◌, ◌^◌, List, [], length, take, Option, Some, None, slice_get}
use Rattle.value_core.specs.declared.datum.Datum.{Datum}
use Rattle.decl_core.specs.Bodies.{body_of}
use Rattle.decl_core.specs.declared.object.Operation.{Operation}
use Rattle.device_core.specs.declared.hand.HandFault.{HandFault}
use Rattle.device_core.specs.declared.hand.HandFault.TheVariants as faults
use Rattle.device_core.specs.declared.hand.Stamp.{Stamp}
use Rattle.device_core.specs.Device.{Assignment}
use Rattle.apply_core.specs.declared.reply.Failure.{Failure}
use Rattle.apply_core.specs.declared.reply.Failure.TheVariants as failures
use Rattle.apply_core.specs.declared.reply.Reply.{Reply}
use Rattle.apply_core.specs.declared.reply.Reply.TheVariants.{Done, Refused, Failed}
use Rattle.page_core.specs.declared.plan.PageWrite.{PageWrite}
use Rattle.page_core.specs.Bytes.{list_bytes, AreWhole}
use Rattle.known_core.specs.Masks.{unread}
use Rattle.run_core.specs.Reads.{IsDue}
use Rattle.page_core.specs.PartPins.{PartPin, pin_at, pins_by}
use Rattle.page_core.specs.Renewed.{with_sealed, AreSealed}
use Rattle.run_core.specs.declared.judge.Change.{Change}
use Rattle.page_core.specs.Given.{IsDone}
use Rattle.run_core.specs.Given.{AreChanges}
use Rattle.run_core.specs.Verdicts.{HasReads}
use Rattle.run_core.specs.Written.{WritesInOrder, parts_changed}
use Rattle.run_core.specs.declared.plan.PagePlan.{PagePlan}
use Rattle.page_core.specs.CallPins.{Call}
use Rattle.run_core.specs.CallPlanned.{IsPlanned, AreNewPins}
use Rattle.run_core.specs.Read.{AreRead}
use Rattle.page_core.specs.Truths.{PinHolds, IsTrueAt}
use Rattle.run_core.specs.Seen.{IsSeen, IsSeenBefore}
use Rattle.run_core.specs.declared.phase.Phase.{Phase}
use Rattle.run_core.specs.declared.phase.Phase.TheVariants.{Reading, Paging, Creating, Appending, Sealing, Ended}
use Rattle.run_core.specs.declared.phase.Plan.{Plan}
use Rattle.run_core.specs.declared.phase.ReadingRun.{ReadingRun}
use Rattle.run_core.specs.declared.phase.More.{More}
use Rattle.run_core.specs.declared.step.StepAnswer.{StepAnswer}
use Rattle.run_core.specs.declared.step.StepAnswer.TheVariants as answers

-- how a run has ended, if it has
abbrev pub ending_of : Phase → Option Reply
ending_of (Reading r) = None
ending_of (Paging m) = None
ending_of (Creating plan) = None
ending_of (Appending plan pen) = None
ending_of (Sealing plan pen) = None
ending_of (Ended reply left) = Some reply

-- the files that a run sealed, in order
abbrev pub sealed_in : Phase → List Stamp
sealed_in (Reading r) = []
sealed_in (Paging m) = []
sealed_in (Creating plan) = plan.pages.sealed.items
sealed_in (Appending plan pen) = plan.pages.sealed.items
sealed_in (Sealing plan pen) = plan.pages.sealed.items
sealed_in (Ended reply left) = left.sealed.items

-- the new page lists of a run
abbrev pub news_in : Phase → List PartPin
news_in (Reading r) = []
news_in (Paging m) = []
news_in (Creating plan) = pins_by 0 plan.pages.counts plan.pages.stamps.items
news_in (Appending plan pen) = pins_by 0 plan.pages.counts plan.pages.stamps.items
news_in (Sealing plan pen) = pins_by 0 plan.pages.counts plan.pages.stamps.items
news_in (Ended reply left) = left.news

-- the files of the old lists that are not in the new ones, as a run that has ended found them
abbrev pub gone_in : Phase → List Stamp
gone_in (Reading r) = []
gone_in (Paging m) = []
gone_in (Creating plan) = []
gone_in (Appending plan pen) = []
gone_in (Sealing plan pen) = []
gone_in (Ended reply left) = left.gone.items

-- what a step answers that left this ending of a run that had not ended
abbrev pub answer_to : Option Reply → StepAnswer
answer_to None = answers.Went
answer_to (Some (Done reply)) = answers.Went
answer_to (Some (Refused word)) = answers.Went
answer_to (Some (Failed failures.Damaged)) = answers.Went
answer_to (Some (Failed failures.Device)) = answers.Failed faults.Device
answer_to (Some (Failed failures.Memory)) = answers.Failed faults.Memory

-- what a step answers, by the endings before and after it
abbrev pub step_answer : Option Reply → Option Reply → StepAnswer
step_answer (Some before) after = answers.AlreadyDone
step_answer None after = answer_to after

-- this is the page that is written
abbrev pub IsCurrent : Plan → PageWrite → Type 0
IsCurrent plan write = slice_get plan.pages.writes.items (length plan.pages.sealed.items) ≡ Some write

-- the run's pen has what the run appended
abbrev pub PenHoldsIn : (ℕ → List ℕ → Type 0) → Phase → Type 0
PenHoldsIn pending (Reading r) = Unit {0}
PenHoldsIn pending (Paging m) = Unit {0}
PenHoldsIn pending (Creating plan) = Unit {0}
PenHoldsIn pending (Appending plan pen) = pending pen.number []
PenHoldsIn pending (Sealing plan pen) = (write : PageWrite) → IsCurrent plan write → pending pen.number write.bytes
PenHoldsIn pending (Ended reply left) = Unit {0}

-- it writes no file
abbrev pub HasNoPen : Phase → Type 0
HasNoPen (Reading r) = Unit {0}
HasNoPen (Paging m) = Unit {0}
HasNoPen (Creating plan) = Unit {0}
HasNoPen (Appending plan pen) = ⊥
HasNoPen (Sealing plan pen) = ⊥
HasNoPen (Ended reply left) = Unit {0}

-- there are bytes of each part that the operation reads, where the body of a run has been judged and wants more
abbrev pub HasItsReads : Operation → Phase → Type 0
HasItsReads operation phase = (m : More) → phase ≡ Paging m → HasReads operation m.seen.read.items

-- the number of the file that is being written, if there is one
abbrev pub pen_in : Phase → Option ℕ
pen_in (Reading r) = None
pen_in (Paging m) = None
pen_in (Creating plan) = None
pen_in (Appending plan pen) = Some pen.number
pen_in (Sealing plan pen) = Some pen.number
pen_in (Ended reply left) = None

-- these are the bytes of so many first pages of a list, and those are whole
abbrev pub IsFront : Assignment → List Stamp → ℕ → List ℕ → Type 0
IsFront a pages count got = (list_bytes a (take count pages) ≡ Some got) × AreWhole a (take count pages)

-- what a call has read so far is true of an assignment
pub record IsReadSoFar (a : Assignment) (call : Call) (r : ReadingRun) : Type 0 where
  pub earlier : IsSeenBefore a call r.part r.seen.known r.seen.read.items
  pub front : (pages : List Stamp) → pin_at call.pins r.part ≡ Some pages → IsFront a pages r.page r.got.items

-- what a call has seen is true of an assignment, and the page that it reads next is the one that its
-- body comes to on that
pub record IsPagedSoFar (a : Assignment) (call : Call) (m : More) : Type 0 where
  pub seen : IsSeen a call m.seen.known m.seen.read.items
  pub due : IsDue m.seen.known (PinHolds a call.pins) call.operation call.arguments m.part m.page

-- the files that were sealed of a plan stand in their places
pub record IsSealedSoFar (pins : List PartPin) (read : List (List ℕ)) (changes : List Change)
    (pages : PagePlan) : Type 0 where
  pub first : List Stamp
  pub planned : IsPlanned pins read changes pages.counts first pages.writes.items pages.gone.items
  pub stamps : pages.stamps.items ≡ with_sealed first pages.writes.items pages.sealed.items

-- what a body gave is true of an assignment, and so is what was sealed of it
pub record IsWritten (a : Assignment) (call : Call) (reply : Option Datum) (pages : PagePlan) : Type 0 where
  pub read : List (List ℕ)
  pub changes : List Change
  pub known : AreRead a call read
  pub order : WritesInOrder (body_of call.operation).statements 0 (parts_changed changes)
  pub given : IsDone (PinHolds a call.pins) call.operation call.arguments reply (AreChanges changes)
  pub planned : IsSealedSoFar call.pins read changes pages
  pub sealed : AreSealed a pages.writes.items pages.sealed.items

abbrev pub IsWrittenSoFar : Assignment → Call → Plan → Type 0
IsWrittenSoFar a call plan = IsWritten a call plan.reply plan.pages

-- What a call that was done has renewed: by the bytes that it read, and by those that its body changed, its new pins
-- are the lists of a plan, and these files go.
pub record IsRenewed (a : Assignment) (call : Call) (reply : Option Datum) (sealed : List Stamp) (news : List PartPin)
    (gone : List Stamp) : Type 0 where
  pub read : List (List ℕ)
  pub changes : List Change
  pub known : AreRead a call read
  pub given : IsDone (PinHolds a call.pins) call.operation call.arguments reply (AreChanges changes)
  pub pins : AreNewPins call.pins read changes sealed news gone

-- what an ending says of the files of a run: one that was refused has sealed none
abbrev pub IsRenewedBy : Assignment → Call → Reply → List Stamp → List PartPin → List Stamp → Type 0
IsRenewedBy a call (Done reply) sealed news gone = IsRenewed a call reply sealed news gone
IsRenewedBy a call (Refused word) sealed news gone = sealed ≡ []
IsRenewedBy a call (Failed failure) sealed news gone = Unit {0}

-- what a run has found so far is true of an assignment
abbrev pub FoundBy : Assignment → Call → Phase → Type 0
FoundBy a call (Reading r) = IsReadSoFar a call r
FoundBy a call (Paging m) = IsPagedSoFar a call m
FoundBy a call (Creating plan) = IsWrittenSoFar a call plan
FoundBy a call (Appending plan pen) = IsWrittenSoFar a call plan
FoundBy a call (Sealing plan pen) = IsWrittenSoFar a call plan
FoundBy a call (Ended reply left) =
    IsTrueAt a call reply left.news × IsRenewedBy a call reply left.sealed.items left.news left.gone.items

-- it is not the reply of a body that was done
abbrev pub IsNotDone : Reply → Type 0
IsNotDone (Done reply) = ⊥
IsNotDone (Refused word) = Unit {0}
IsNotDone (Failed failure) = Unit {0}

-- it has ended, done or refused
abbrev pub IsSettled : Option Reply → Type 0
IsSettled None = ⊥
IsSettled (Some (Done reply)) = Unit {0}
IsSettled (Some (Refused word)) = Unit {0}
IsSettled (Some (Failed failure)) = ⊥

-- how many pages are not sealed
abbrev pub pages_left : Plan → ℕ
pages_left plan = length plan.pages.writes.items - length plan.pages.sealed.items

-- a number that falls with each step: a part counts for more than all its pages, a page that is not known for one, and
-- a page that is written for three
abbrev pub work_in : Phase → ℕ
work_in (Reading r) = 2 ^ 73 + ((16 - r.part) * 2 ^ 66 + (2 ^ 65 - r.page))
work_in (Paging m) = 2 ^ 72 + unread m.seen.known
work_in (Creating plan) = pages_left plan * 3
work_in (Appending plan pen) = pages_left plan * 3 - 1
work_in (Sealing plan pen) = pages_left plan * 3 - 2
work_in (Ended reply left) = 0

-- how a run ends for a fault
abbrev pub failure_of : HandFault → Failure
failure_of faults.Device = failures.Device
failure_of faults.Memory = failures.Memory
