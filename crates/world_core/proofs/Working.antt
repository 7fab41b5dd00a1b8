-- The work of runs.
use Rattle.std.proofs.Common.{◌≡◌, ◌≢◌, ℕ, zero, suc, ◌+◌, ◌-◌, ◌*◌, ◌<◌, ◌≤◌, inl, inr, Bool, true, false, ◌==◌, if◌then◌else◌, List, [], ◌∷◌, length, refl, ◌∙◌, ap, arith, length-append}
use Rattle.std.specs.Prelude.{slice_set}
use Rattle.std.proofs.lemmas.Bool.Decides.{eqb_tells}
use Rattle.std.proofs.lemmas.List.{length-map}
use Rattle.decl_core.specs.Bodies.{body_of}
use Rattle.decl_core.specs.Form.{Statements}
use Rattle.decl_core.specs.Touched.{Reads, Writes}
use Rattle.decl_core.proofs.Footprints.{writes_are_reads}
use Rattle.device_core.specs.declared.hand.Stamp.{Stamp}
use Rattle.device_core.specs.Device.{Assignment}
use Rattle.page_core.specs.declared.plan.PageWrite.{PageWrite}
use Rattle.page_core.specs.Cut.{most_pages, together}
use Rattle.page_core.specs.Laws.{PartRenewal, ArePlanned, no_part, one_part}
use Rattle.page_core.specs.Plans.{Plans, ends, keeps, replaces, adds}
use Rattle.page_core.specs.PartPins.{PartPin}
use Rattle.page_core.specs.Renewed.{with_sealed}
use Rattle.run_core.specs.declared.judge.Change.{Change}
use Rattle.run_core.specs.Written.{WritesInOrder, parts_changed}
use Rattle.run_core.specs.declared.phase.Phase.{Phase}
use Rattle.run_core.specs.declared.phase.Phase.TheVariants.{Reading, Paging, Creating, Appending, Sealing, Ended}
use Rattle.run_core.specs.declared.phase.Plan.{Plan}
use Rattle.run_core.specs.declared.run.Run.{Run}
use Rattle.apply_core.specs.declared.need.Need.TheVariants as needs
use Rattle.page_core.specs.CallPins.{Call}
use Rattle.run_core.specs.CallPlanned.{AreRenewals, AreShort, renewed}
use Rattle.run_core.specs.CallPlanned.{no_part as no_change, same as not_renewed}
use Rattle.page_core.specs.Truths.{PinsAreWhole}
use Rattle.known_core.specs.Masks.{unread}
use Rattle.run_core.specs.Phases.{FoundBy, IsWrittenSoFar}
use Rattle.run_core.specs.Runs.{run_call, run_place, SoFar}
use Rattle.run_core.specs.Steps.{Place, at_read, at_page, at_create, at_append, at_seal, at_end, place_in, need_at, Follows, reads_on, reads_next, reads_last, misses, pages_on, creates, appends, seals_on, seals_last, fails, stays, changed, not_changed, wants}
use Rattle.world_core.specs.Answers.{stepped, no_step, step_not_running}
use Rattle.world_core.specs.Kept.{IsNear}
use Rattle.world_core.specs.Laws.{StepsTakeWork, WorkIsBounded}
use Rattle.world_core.specs.Scene.{Standing, IsRunAt}
use Rattle.world_core.specs.Work.{most_files, most_further, work_at, work_of, most_work}
use Rattle.world_core.proofs.Places.{some_is, length_set, length_snoc}

-- A run reads one of 8 pages of one of 16 parts, comes to one of at most 128 pages that are not known, and writes one of at most 128 files.
abbrev pub StandsWithin : Place → Type 0
StandsWithin (at_read part page) = (part < 16) × (page < most_pages)
StandsWithin (at_page known part page) = unread known ≤ most_further
StandsWithin (at_create writes sealed) = (length sealed < length writes) × (length writes ≤ most_files)
StandsWithin (at_append writes sealed) = (length sealed < length writes) × (length writes ≤ most_files)
StandsWithin (at_seal writes sealed) = (length sealed < length writes) × (length writes ≤ most_files)
StandsWithin (at_end reply sealed) = Unit {0}

-- no more pages are written than a new list has
plan_writes : (place : ℕ) (olds : List Stamp) (befores pages : List (List ℕ)) (stamps : List Stamp) (writes : List PageWrite) (gone : List Stamp) → Plans place olds befores pages stamps writes gone → length writes ≤ length stamps
plan_writes place olds befores pages stamps writes gone ends = omega arith
plan_writes place olds befores pages stamps writes gone (keeps old page behind) = omega (arith, plan_writes _ _ _ _ _ _ _ behind)
plan_writes place olds befores pages stamps writes gone (replaces old stamp before page write more differs at is behind) = omega (arith, plan_writes _ _ _ _ _ _ _ behind)
plan_writes place olds befores pages stamps writes gone (adds stamp page write more at is behind) = omega (arith, plan_writes _ _ _ _ _ _ _ behind)

planned_writes : (place : ℕ) (parts : List PartRenewal) (stamps : List Stamp) (writes : List PageWrite) (gone : List Stamp) → ArePlanned place parts stamps writes gone → length writes ≤ length stamps
planned_writes place parts stamps writes gone no_part = omega arith
planned_writes place parts stamps writes gone (one_part part rest size first behind first_writes writes_behind first_gone gone_behind cut plans others) =
    omega (arith, length-append first behind, length-append first_writes writes_behind, plan_writes _ _ _ _ _ _ _ plans, planned_writes _ _ _ _ _ others)

with_sealed_long : (stamps : List Stamp) (writes : List PageWrite) (sealed : List Stamp) → length (with_sealed stamps writes sealed) ≡ length stamps
with_sealed_long stamps [] sealed = refl
with_sealed_long stamps (write ∷ writes) [] = refl
with_sealed_long stamps (write ∷ writes) (stamp ∷ sealed) = with_sealed_long (slice_set stamps write.place stamp) writes sealed ∙ length_set stamps write.place stamp

-- so many parts are changed at most, where those that a body reads are below 16
rising_few : (statements : Statements) (from : ℕ) (parts : List ℕ) → ((p : ℕ) → Writes statements p → p < 16) → WritesInOrder statements from parts → length parts ≤ 16 - from
rising_few statements from [] low order = omega arith
rising_few statements from (part ∷ rest) low order = omega (arith, order.0, low part order.1, rising_few statements (part + 1) rest low order.2)

-- and they have so many pages
renewals_within : (pins : List PartPin) (read : List (List ℕ)) (from : ℕ) (changes : List Change) (parts : List PartRenewal) (counts : List ℕ) → AreRenewals pins read from changes parts counts → AreShort counts → together counts ≤ length changes * 8
renewals_within pins read from changes parts counts no_change short = omega arith
renewals_within pins read from changes parts counts (not_renewed changes1 parts1 rest behind) short = omega (arith, renewals_within pins read (from + 1) changes1 parts1 rest behind (λ k. short (suc k)))
renewals_within pins read from changes parts counts (renewed change part changes1 parts1 rest count at is many behind) short = omega (arith, short 0 count refl, renewals_within pins read (from + 1) changes1 parts1 rest behind (λ k. short (suc k)))

plan_within : (a : Assignment) (call : Call) (plan : Plan) → ((p : ℕ) → Reads (body_of call.operation).statements p → p < 16) → IsWrittenSoFar a call plan → length plan.pages.writes.items ≤ most_files
plan_within a call plan low written =
    let so = written.planned in
    let counted : together plan.pages.counts ≡ length plan.pages.stamps.items = plan.pages.counted in
    let many : length plan.pages.stamps.items ≡ length so.first = ap length so.stamps ∙ with_sealed_long so.first plan.pages.writes.items plan.pages.sealed.items in
    let few = rising_few (body_of call.operation).statements 0 (parts_changed written.changes) (λ p writes. low p (writes_are_reads (body_of call.operation) p writes)) written.order in
    let changed_few : length written.changes ≤ 16 = omega (arith, few, length-map written.changes (λ (change : Change). change.part)) in
    omega (arith, planned_writes _ _ _ _ _ so.planned.plans, many, counted, changed_few, renewals_within _ _ _ _ _ _ so.planned.renewals plan.pages.short)

phase_within : (a : Assignment) (call : Call) (phase : Phase) → ((p : ℕ) → Reads (body_of call.operation).statements p → p < 16) → IsNear (place_in phase) → FoundBy a call phase → StandsWithin (place_in phase)
phase_within a call (Reading r) low near found = (r.low, near)
phase_within a call (Paging m) low near found = m.seen.few
phase_within a call (Creating plan) low near found = (plan.left, plan_within a call plan low found)
phase_within a call (Appending plan pen) low near found = (plan.left, plan_within a call plan low found)
phase_within a call (Sealing plan pen) low near found = (plan.left, plan_within a call plan low found)
phase_within a call (Ended reply left) low near found = tt

-- where a run stands that goes on
pub run_within : (a : Assignment) (run : Run) → IsNear (run_place run) → PinsAreWhole a (run_call run) → SoFar a run → StandsWithin (run_place run)
run_within a run near whole so = phase_within a (run_call run) run.phase run.task.low near (so.found whole)

-- a run that has not ended has a step to do at least
not_idle : (place : Place) → StandsWithin place → need_at place ≢ needs.Done → 0 < work_at place
not_idle (at_read part page) is more = omega (arith, is.0, is.1)
not_idle (at_page known part page) is more = omega arith
not_idle (at_create writes sealed) is more = omega (arith, is.0, is.1)
not_idle (at_append writes sealed) is more = omega (arith, is.0, is.1)
not_idle (at_seal writes sealed) is more = omega (arith, is.0, is.1)
not_idle (at_end reply sealed) is more = absurd (more refl)

-- each step leaves less to do
pub work_falls : (call : Call) (old new : Place) → StandsWithin old → StandsWithin new → need_at old ≢ needs.Done → Follows call old new → work_at new < work_at old
work_falls call old new was is more (reads_on pages pin long front) = omega (arith, was.0, was.1, is.1)
work_falls call old new was is more (reads_next last next) = omega (arith, was.0, was.1, is.0, next.behind)
work_falls call old new was is more (reads_last known last none few (changed some)) = omega (arith, was.0, was.1)
work_falls call old new was is more (reads_last known last none few not_changed) = omega (arith, was.0, was.1)
work_falls call old new was is more (reads_last known last none few (wants next)) = omega (arith, was.0, was.1, few)
work_falls call old new was is more (misses front) = omega (arith, was.0, was.1)
work_falls call old new was is more (pages_on known one less (changed some)) = omega (arith, was, less)
work_falls call old new was is more (pages_on known one less not_changed) = omega arith
work_falls call old new was is more (pages_on known one less (wants next)) = omega (arith, was, less)
work_falls call old new was is more creates = omega (arith, was.0, was.1)
work_falls call old new was is more appends = omega (arith, was.0, was.1)
work_falls call old new was is more (seals_on {sealed = sealed} one left) = omega (arith, was.0, was.1, length_snoc sealed one)
work_falls call old new was is more (seals_last one all) = omega (arith, was.0, was.1)
work_falls call old new was is more (fails fault going) = not_idle old was more
work_falls call old new was is more stays = absurd (more refl)

-- no run has more to do
at_most : (place : Place) → work_at place ≤ most_work
at_most (at_read part page) = omega arith
at_most (at_page known part page) = omega arith
at_most (at_create writes sealed) = omega arith
at_most (at_append writes sealed) = omega arith
at_most (at_seal writes sealed) = omega arith
at_most (at_end reply sealed) = omega arith

one_of : (n m : ℕ) (test : Bool) → n ≤ most_work → m ≤ most_work → (if test then n else m) ≤ most_work
one_of n m true low later = low
one_of n m false low later = later

pub of_at_most : WorkIsBounded
of_at_most number [] = omega arith
of_at_most number (run ∷ runs) = one_of (work_at run.place) (work_of number runs) (run.call.number == number) (at_most run.place) (of_at_most number runs)

-- the run of a call is its only one
pub work_is : (runs : List Standing) (k n : ℕ) (run : Standing) → IsRunAt runs k n run → work_of n runs ≡ work_at run.place
work_is [] k n run is = absurd (let there = is.there in cc)
work_is (x ∷ xs) zero n run is = elim (eqb_tells x.call.number n) [
  | inl same ↦ ap (λ (t : Bool). if t then work_at x.place else work_of n xs) same.0 ∙ ap (λ (s : Standing). work_at s.place) (some_is is.there)
  | inr other ↦ absurd (other.1 (ap (λ (s : Standing). s.call.number) (some_is is.there) ∙ is.number))
]
work_is (x ∷ xs) (suc k) n run is = elim (eqb_tells x.call.number n) [
  | inl same ↦ absurd (let first = is.only 0 x refl same.1 in omega (arith, first))
  | inr other ↦ ap (λ (t : Bool). if t then work_at x.place else work_of n xs) other.0 ∙ work_is xs k n run (record { there = is.there; number = is.number; only = λ j one there number. (let place = is.only (suc j) one there number in omega (arith, place)) })
]

-- after its step
pub work_set : (runs : List Standing) (k n : ℕ) (run : Standing) (after : Place) → IsRunAt runs k n run → work_of n (slice_set runs k (record run { place = after })) ≡ work_at after
work_set [] k n run after is = absurd (let there = is.there in cc)
work_set (x ∷ xs) zero n run after is = elim (eqb_tells run.call.number n) [
  | inl same ↦ ap (λ (t : Bool). if t then work_at after else work_of n xs) same.0
  | inr other ↦ absurd (other.1 is.number)
]
work_set (x ∷ xs) (suc k) n run after is = elim (eqb_tells x.call.number n) [
  | inl same ↦ absurd (let first = is.only 0 x refl same.1 in omega (arith, first))
  | inr other ↦ ap (λ (t : Bool). if t then work_at x.place else work_of n (slice_set xs k (record run { place = after }))) other.0
      ∙ work_set xs k n run after (record { there = is.there; number = is.number; only = λ j one there number. (let place = is.only (suc j) one there number in omega (arith, place)) })
]

pub steps_work : StepsTakeWork
steps_work old new number works a need answer (stepped k run after files there more moves) is =
    omega (arith, moves.falls, work_is old.runs k number run there, work_set old.runs k number run after there)
steps_work old new number works a need answer (no_step k run there done) is = absurd cc
steps_work old new number works a need answer (step_not_running none) is = absurd cc
