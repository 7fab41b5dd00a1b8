-- What a run is, to its callers: its call, how it ended, what it has sealed, and what it has found, by an assignment.
use Rattle.std.specs.Prelude.{◌≡◌, ◌≢◌, ℕ, List, Option, Some, None}
use Rattle.std.proofs.Common.{refl}
use Rattle.device_core.specs.Device.{Assignment}
use Rattle.device_core.specs.Made.{Made}
use Rattle.device_core.specs.declared.hand.Stamp.{Stamp}
use Rattle.page_core.specs.PartPins.{PartPin}
use Rattle.run_core.specs.declared.phase.Phase.{Phase}
use Rattle.run_core.specs.declared.phase.Phase.TheVariants.{Reading, Paging, Creating, Appending, Sealing, Ended}
use Rattle.apply_core.specs.declared.reply.Reply.{Reply}
use Rattle.run_core.specs.declared.run.Run.{Run}
use Rattle.run_core.specs.Calling.{StepMakes}
use Rattle.page_core.specs.CallPins.{Call}
use Rattle.run_core.specs.Steps.{Place, place_in, ending_at, sealed_at}
use Rattle.run_core.specs.Tasks.{task_call}
use Rattle.page_core.specs.Truths.{PinsAreWhole}
use Rattle.run_core.specs.Phases.{ending_of, sealed_in, news_in, gone_in, pen_in, PenHoldsIn, FoundBy, work_in}

abbrev pub run_call : Run → Call
run_call run = task_call run.task

-- how a run has ended, if it has
abbrev pub run_ending : Run → Option Reply
run_ending run = ending_of run.phase

-- the files that a run has sealed, in order
abbrev pub run_sealed : Run → List Stamp
run_sealed run = sealed_in run.phase

-- the new page lists of a run that has ended
abbrev pub run_news : Run → List PartPin
run_news run = news_in run.phase

-- the files of the old lists that are not in the new ones, of a run that has ended
abbrev pub run_gone : Run → List Stamp
run_gone run = gone_in run.phase

-- the number of the file that a run writes, if it writes one
abbrev pub run_pen : Run → Option ℕ
run_pen run = pen_in run.phase

-- two runs write no file together
abbrev pub AreApart : Run → Run → Type 0
AreApart one other = (n : ℕ) → run_pen one ≡ Some n → run_pen other ≢ Some n

-- a number that falls with each step of a run that has not ended
abbrev pub run_work : Run → ℕ
run_work run = work_in run.phase

-- where a run stands
abbrev pub run_place : Run → Place
run_place run = place_in run.phase

-- what a step of this run did to a hand, and what it left of the run: how it has ended, and what it has sealed
abbrev pub RunMakes : {H : Type 0} → (H → Made → H → Type 0) → Run → Option Reply → List Stamp → H → H → Type 0
RunMakes makes run ending sealed old new = StepMakes makes (run_call run) run.phase ending sealed old new

-- what was appended to the run's pen, if it has one, is what the run appended
abbrev pub PenHolds : (ℕ → List ℕ → Type 0) → Run → Type 0
PenHolds pending run = PenHoldsIn pending run.phase

-- What a run has found so far is true of an assignment, where its pins are whole: what it read are the bytes under
-- them, what it computed is what its body gives on them, and what it sealed holds what the body changed. Of an array of
-- integers not all bytes are read.
pub record SoFar (a : Assignment) (run : Run) : Type 0 where
  pub found : PinsAreWhole a (run_call run) → FoundBy a (run_call run) run.phase

-- a run without a pen has in it what it appended
pub no_pen_in : (pending : ℕ → List ℕ → Type 0) (phase : Phase) → pen_in phase ≡ None → PenHoldsIn pending phase
no_pen_in pending (Reading r) none = tt
no_pen_in pending (Paging m) none = tt
no_pen_in pending (Creating plan) none = tt
no_pen_in pending (Appending plan pen) none = absurd cc
no_pen_in pending (Sealing plan pen) none = absurd cc
no_pen_in pending (Ended reply left) none = tt

pub no_pen : (pending : ℕ → List ℕ → Type 0) (run : Run) → run_pen run ≡ None → PenHolds pending run
no_pen pending run none = no_pen_in pending run.phase none

-- how a run has ended is told by where it stands
pub ending_in : (phase : Phase) → ending_of phase ≡ ending_at (place_in phase)
ending_in (Reading r) = refl
ending_in (Paging m) = refl
ending_in (Creating plan) = refl
ending_in (Appending plan pen) = refl
ending_in (Sealing plan pen) = refl
ending_in (Ended reply left) = refl

pub ending_by_place : (run : Run) → run_ending run ≡ ending_at (run_place run)
ending_by_place run = ending_in run.phase

sealed_by : (phase : Phase) → sealed_in phase ≡ sealed_at (place_in phase)
sealed_by (Reading r) = refl
sealed_by (Paging m) = refl
sealed_by (Creating plan) = refl
sealed_by (Appending plan pen) = refl
sealed_by (Sealing plan pen) = refl
sealed_by (Ended reply left) = refl

pub sealed_by_place : (run : Run) → run_sealed run ≡ sealed_at (run_place run)
sealed_by_place run = sealed_by run.phase
