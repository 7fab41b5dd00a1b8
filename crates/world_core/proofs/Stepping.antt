-- The tables of a world after a step of one run.
use Rattle.std.proofs.Common.{◌≡◌, ◌≢◌, ℕ, zero, suc, ◌≤◌, ◌⊎◌, inl, inr, Bool, true, false, ◌||◌, ◌==◌, List, [], ◌∷◌, length, Option, Some, None, refl, sym, ◌∙◌, ap, subst, arith, take, drop, map}
use Rattle.std.specs.Prelude.{slice_get, slice_set}
use Rattle.std.specs.List.{list_any}
use Rattle.std.proofs.lemmas.Bool.{cases_lt}
use Rattle.std.proofs.lemmas.Bool.Decides.{eqb_tells}
use Rattle.decl_core.specs.Bodies.{body_of}
use Rattle.decl_core.specs.Touched.{Reads}
use Rattle.value_core.specs.declared.kind.Kind.{Kind}
use Rattle.value_core.specs.Contents.{Contents}
use Rattle.value_bytes.specs.Spelling.{Spells}
use Rattle.device_core.specs.declared.file.File.{File}
use Rattle.device_core.specs.declared.hand.Stamp.{Stamp}
use Rattle.device_core.specs.Device.{Assignment, IsFree}
use Rattle.device_core.specs.Files.{HasFiles, IsOpen, Serves}
use Rattle.page_core.specs.Bytes.{list_bytes}
use Rattle.page_core.specs.Cut.{most_pages}
use Rattle.page_core.specs.PartPins.{pin_at}
use Rattle.run_core.specs.declared.phase.Phase.{Phase}
use Rattle.run_core.specs.declared.phase.Phase.TheVariants.{Reading, Paging, Creating, Appending, Sealing, Ended}
use Rattle.apply_core.specs.declared.reply.Failure.TheVariants as failures
use Rattle.apply_core.specs.declared.reply.Reply.{Reply}
use Rattle.apply_core.specs.declared.reply.Reply.TheVariants.{Done, Refused, Failed}
use Rattle.run_core.specs.declared.run.Run.{Run}
use Rattle.page_core.specs.CallPins.{Call}
use Rattle.run_core.specs.Phases.{ending_of, step_answer, FoundBy}
use Rattle.world_core.specs.RunLaws.{PensStay, PensAreOpen}
use Rattle.run_core.specs.Runs.{run_call, run_ending, run_pen, run_place, run_sealed, PenHolds, SoFar, AreApart, ending_by_place}
use Rattle.apply_core.specs.declared.need.Need.TheVariants as needs
use Rattle.run_core.specs.Steps.{Place, at_read, at_page, at_create, at_append, at_seal, at_end, need_at, ending_at, Follows, FailsWith, AreServed, IsReadAt, PinsServed, IsJudged, changed, not_changed, wants, reads_on, reads_next, reads_last, misses, pages_on, creates, appends, seals_on, seals_last, fails, stays}
use Rattle.page_core.specs.Given.{IsDamaged}
use Rattle.page_core.specs.Truths.{PinHolds, PinsAreWhole}
use Rattle.page_core.specs.Lists.{Every, EachPair}
use Rattle.page_core.specs.ObjectCalls.{RunningCall}
use Rattle.board_core.specs.Board.{Board}
use Rattle.board_core.specs.Chain.{AreOf, ChainedAreLegal, ShowContents}
use Rattle.board_core.specs.Sound.{IsMadeOf, IsPinned, IsRunningIn, kinds_of}
use Rattle.page_core.proofs.Lists.{Every-at, Every-both, among_at}
use Rattle.board_core.specs.Answers.{runs_in}
use Rattle.world_core.specs.declared.slot.Slot.{Slot}
use Rattle.world_core.specs.declared.event.WorldAnswer.TheVariants.{Stepped}
use Rattle.world_core.specs.declared.event.EventAnswer.{EventAnswer}
use Rattle.world_core.specs.Answers.{Answers, Moves, stepped, with_starts}
use Rattle.world_core.specs.Events.{step}
use Rattle.world_core.specs.Scene.{Scene, Standing, IsRunAt, call_running}
use Rattle.world_core.specs.Kept.{IsKept, IsNear, IsReady, standing_of}
use Rattle.world_core.proofs.Places.{some_is, one_place, length_set}
use Rattle.world_core.proofs.Wholes.{of_call_at, call_whole}
use Rattle.world_core.proofs.Working.{run_within, work_falls}

-- the item of one list that stands where the item of another does
pub beside : {X Y Z : Type 0} (f : X → Z) (g : Y → Z) (xs : List X) (ys : List Y) (k : ℕ) (x : X) → map f xs ≡ map g (take (length xs) ys) → slice_get xs k ≡ Some x
    → (y : Y) × (slice_get ys k ≡ Some y) × (f x ≡ g y)
beside f g [] ys k x same at = absurd cc
beside f g (z ∷ xs) [] k x same at = absurd cc
beside f g (z ∷ xs) (y ∷ ys) zero x same at = (y, refl, ap f (sym (some_is at)) ∙ head_is same)
  where
    head_is : {Z : Type 0} {z w : Z} {zs ws : List Z} → z ∷ zs ≡ w ∷ ws → z ≡ w
    head_is e = cc
beside f g (z ∷ xs) (y ∷ ys) (suc k) x same at = beside f g xs ys k x (tail_is same) at
  where
    tail_is : {Z : Type 0} {z w : Z} {zs ws : List Z} → z ∷ zs ≡ w ∷ ws → zs ≡ ws
    tail_is e = cc

-- the running call of a run
pub its_call : (b : Board) (files : List File) (runs : List Slot) (values : List Contents) (k : ℕ) (slot : Slot) → IsKept b files runs values → slice_get runs k ≡ Some slot
    → (r : RunningCall) × (slice_get b.running k ≡ Some r) × (run_call slot.run ≡ call_running r)
its_call b files runs values k slot kept at = beside (λ (s : Slot). run_call s.run) call_running runs b.running k slot kept.calls at

-- the pins of a run's call are whole
pub run_whole : (b : Board) (files : List File) (runs : List Slot) (values : List Contents) (k : ℕ) (slot : Slot) (a : Assignment) → IsKept b files runs values → slice_get runs k ≡ Some slot → HasFiles files a → PinsAreWhole a (run_call slot.run)
run_whole b files runs values k slot a kept at agrees =
    let its = its_call b files runs values k slot kept at in
    subst (PinsAreWhole a) (sym its.2) (call_whole b files runs values its.0 a kept (among_at b.running k its.0 its.1) agrees)

-- a run that ended so has found a part damaged
damaged_in : (a : Assignment) (call : Call) (phase : Phase) → ending_of phase ≡ Some (Failed failures.Damaged) → FoundBy a call phase → IsDamaged (PinHolds a call.pins) call.operation
damaged_in a call (Reading r) is found = absurd cc
damaged_in a call (Paging m) is found = absurd cc
damaged_in a call (Creating plan) is found = absurd cc
damaged_in a call (Appending plan pen) is found = absurd cc
damaged_in a call (Sealing plan pen) is found = absurd cc
damaged_in a call (Ended (Done reply) left) is found = absurd cc
damaged_in a call (Ended (Refused word) left) is found = absurd cc
damaged_in a call (Ended (Failed failures.Damaged) left) is found = found.0
damaged_in a call (Ended (Failed failures.Device) left) is found = absurd cc
damaged_in a call (Ended (Failed failures.Memory) left) is found = absurd cc

-- where the pins show contents, no part that a running call reads is damaged
no_damage : (a : Assignment) (kinds : List Kind) (pins : List (List Stamp)) (contents : List Contents) (r : RunningCall) → ShowContents a kinds pins contents → AreOf kinds r.call.operation → IsPinned pins r
    → IsDamaged (PinHolds a r.pins) r.call.operation → ⊥
no_damage a kinds pins contents r show are pinned damaged =
    let there = show.each damaged.p damaged.kind (are damaged.p damaged.kind damaged.named) in
    let hold = damaged.there in
    let same_pin : there.0 ≡ hold.0 = some_is (sym there.2 ∙ pinned damaged.p damaged.named.named ∙ hold.1) in
    let same_bytes : there.4.bytes ≡ damaged.bytes = some_is (sym there.4.there ∙ ap (list_bytes a) same_pin ∙ hold.2) in
    damaged.spell_none there.1 (subst (λ (bs : List ℕ). Spells bs damaged.kind there.1) same_bytes there.4.spells)

-- a run that goes on with this call finds no part damaged
pub not_damaged : (law : ChainedAreLegal) (b : Board) (files : List File) (runs : List Slot) (values : List Contents) (k : ℕ) (slot : Slot) (run : Run) (a : Assignment)
    → IsKept b files runs values → slice_get runs k ≡ Some slot → run_call run ≡ run_call slot.run → HasFiles files a → SoFar a run → run_ending run ≡ Some (Failed failures.Damaged) → ⊥
not_damaged law b files runs values k slot run a kept at same agrees found ended =
    let its = its_call b files runs values k slot kept at in
    let r : RunningCall = its.0 in
    let runs_so : IsRunningIn b r = Every-at (IsRunningIn b) b.running k r kept.sound.counted.runs its.1 in
    let made : IsMadeOf b.object r.call = of_call_at (IsMadeOf b.object) b.calls r.number r.call kept.sound.counted.made runs_so.call in
    let shown : ShowContents a (kinds_of b.object) b.pins _ = (law a (kinds_of b.object) b.opening b.pins b.history values kept.sound.pinned.entries kept.sound.pinned.chained (kept.opening a agrees) (kept.entries a agrees)).1 in
    no_damage a (kinds_of b.object) b.pins _ r shown made.parts (Every-at (IsPinned b.pins) b.running k r kept.sound.pinned.pinned its.1)
    (subst (λ (c : Call). IsDamaged (PinHolds a c.pins) c.operation) (same ∙ its.2) (damaged_in a (run_call run) run.phase ended (found.found (subst (PinsAreWhole a) (sym same) (run_whole b files runs values k slot a kept at agrees)))))

-- A step of this run over these files leaves the other files and runs as they are.
pub record Spares (old new : List File) (before after : Run) : Type 0 where
  pub call : run_call after ≡ run_call before
  pub kept : (a : Assignment) → HasFiles new a → HasFiles old a
  pub some : (a : Assignment) × HasFiles new a
  pub unused : (n : ℕ) → run_pen after ≡ Some n → (run_pen before ≡ Some n) ⊎ IsFree (λ a. HasFiles new a) (λ n b. IsOpen old n b) n
  pub others : (n : ℕ) (b : List ℕ) → run_pen before ≢ Some n → IsOpen old n b → IsOpen new n b
  pub serves : (s : Stamp) → Serves old s → Serves new s

-- what a step makes of its own run
pub record Makes (is_to_work : Bool) (old new : List File) (before after : Run) : Type 0 where
  pub found : PenHolds (λ n b. IsOpen old n b) before → (a : Assignment) → HasFiles new a → SoFar a before → SoFar a after
  pub pen : PenHolds (λ n b. IsOpen old n b) before → PenHolds (λ n b. IsOpen new n b) after
  pub moves : Follows (run_call before) (run_place before) (run_place after)
  pub written : AreServed (λ s. Serves old s) (run_sealed before) → AreServed (λ s. Serves new s) (run_sealed after)
  pub works : is_to_work ≡ true → PenHolds (λ n b. IsOpen old n b) before → PinsServed (λ s. Serves old s) (run_call before) → run_ending before ≡ None → run_ending after ≡ Some (Failed failures.Device) → ⊥
  pub fails : is_to_work ≡ false → FailsWith (run_place before) (run_ending after)

sealed_stay : (old new : Stamp → Type 0) (sealed : List Stamp) → ((s : Stamp) → old s → new s) → AreServed old sealed → AreServed new sealed
sealed_stay old new [] serves is = tt
sealed_stay old new (one ∷ sealed) serves is = (serves one is.0, sealed_stay old new sealed serves is.1)

module _ (stay : PensStay) (are_open : PensAreOpen) (old new : List File) (slot left : Slot) (spares : Spares old new slot.run left.run) where
  -- another run is ready after the step
  other_ready : (x : Slot) → AreApart x.run slot.run → IsReady old x → IsReady new x
  other_ready x apart ready = record {
    pen = stay old new x.run (λ n b at is. spares.others n b (apart n at) is) ready.pen;
    pins = λ part page reads pages stamp pin there. spares.serves stamp (ready.pins part page reads pages stamp pin there);
    written = sealed_stay (λ s. Serves old s) (λ s. Serves new s) (run_sealed x.run) spares.serves ready.written;
    found = λ a agrees. ready.found a (spares.kept a agrees);
    near = ready.near;
    number = ready.number;
  }

  -- and writes another file
  other_apart : (x : Slot) → AreApart x.run slot.run → IsReady old x → AreApart x.run left.run
  other_apart x apart ready n at there = elim (spares.unused n there) [
    | inl same ↦ apart n at same
    | inr free ↦ (let is = are_open old x.run n at ready.pen in free spares.some.0 spares.some.1 is.0 is.1)
  ]

  turned : (x y : Slot) → AreApart x.run y.run → AreApart y.run x.run
  turned x y apart n at there = apart n there at

  ready_set : (runs : List Slot) (k : ℕ) → slice_get runs k ≡ Some slot → EachPair (λ (x y : Slot). AreApart x.run y.run) runs → IsReady new left → Every (IsReady old) runs → Every (IsReady new) (slice_set runs k left)
  ready_set [] k at apart here ready = tt
  ready_set (x ∷ xs) zero at apart here ready = (
    here,
    Every-both (λ (y : Slot). AreApart slot.run y.run) (IsReady old) (IsReady new) (λ y its is. other_ready y (turned slot y its) is) xs
        (subst (λ (z : Slot). Every (λ (y : Slot). AreApart z.run y.run) xs) (some_is at) apart.0) ready.1,
  )
  ready_set (x ∷ xs) (suc k) at apart here ready =
      (other_ready x (Every-at (λ (y : Slot). AreApart x.run y.run) xs k slot apart.0 at) ready.0, ready_set xs k at apart.1 here ready.1)

  every_set : (P : Slot → Type 0) (xs : List Slot) (k : ℕ) (y : Slot) → Every P xs → P y → Every P (slice_set xs k y)
  every_set P [] k y all here = tt
  every_set P (x ∷ xs) zero y all here = (here, all.1)
  every_set P (x ∷ xs) (suc k) y all here = (all.0, every_set P xs k y all.1 here)

  apart_set : (runs : List Slot) (k : ℕ) → slice_get runs k ≡ Some slot → EachPair (λ (x y : Slot). AreApart x.run y.run) runs → Every (IsReady old) runs
      → EachPair (λ (x y : Slot). AreApart x.run y.run) (slice_set runs k left)
  apart_set [] k at apart ready = tt
  apart_set (x ∷ xs) zero at apart ready = (
    Every-both (λ (y : Slot). AreApart slot.run y.run) (IsReady old) (λ (y : Slot). AreApart left.run y.run) (λ y its is. turned y left (other_apart y (turned slot y its) is)) xs
        (subst (λ (z : Slot). Every (λ (y : Slot). AreApart z.run y.run) xs) (some_is at) apart.0) ready.1,
    apart.1,
  )
  apart_set (x ∷ xs) (suc k) at apart ready =
      (every_set (λ (y : Slot). AreApart x.run y.run) xs k left apart.0 (other_apart x (Every-at (λ (y : Slot). AreApart x.run y.run) xs k slot apart.0 at) ready.0), apart_set xs k at apart.1 ready.1)

-- what a list maps to, where an item is set
pub map_set : {X Y : Type 0} (f : X → Y) (xs : List X) (k : ℕ) (y : X) → map f (slice_set xs k y) ≡ slice_set (map f xs) k (f y)
map_set f [] k y = refl
map_set f (x ∷ xs) zero y = refl
map_set f (x ∷ xs) (suc k) y = ap (λ zs. f x ∷ zs) (map_set f xs k y)

pub map_at : {X Y : Type 0} (f : X → Y) (xs : List X) (k : ℕ) (x : X) → slice_get xs k ≡ Some x → slice_get (map f xs) k ≡ Some (f x)
map_at f [] k x at = absurd cc
map_at f (z ∷ xs) zero x at = ap (λ y. Some (f y)) (some_is at)
map_at f (z ∷ xs) (suc k) x at = map_at f xs k x at

-- what stands in a list that another maps to
of_map_at : {X Y : Type 0} (f : X → Y) (xs : List X) (k : ℕ) (y : Y) → slice_get (map f xs) k ≡ Some y → (x : X) × (slice_get xs k ≡ Some x) × (f x ≡ y)
of_map_at f [] k y at = absurd cc
of_map_at f (x ∷ xs) zero y at = (x, refl, some_is at)
of_map_at f (x ∷ xs) (suc k) y at = of_map_at f xs k y at

pub set_same : {X : Type 0} (xs : List X) (k : ℕ) (x : X) → slice_get xs k ≡ Some x → slice_set xs k x ≡ xs
set_same [] k x at = refl
set_same (z ∷ xs) zero x at = ap (λ y. y ∷ xs) (sym (some_is at))
set_same (z ∷ xs) (suc k) x at = ap (λ zs. z ∷ zs) (set_same xs k x at)

-- the tables after a step of the run at this place
pub runs_stepped : (stay : PensStay) (are_open : PensAreOpen) (b : Board) (old new : List File) (runs : List Slot) (values : List Contents) (k : ℕ) (slot left : Slot)
    → IsKept b old runs values → slice_get runs k ≡ Some slot → Spares old new slot.run left.run → IsReady new left → IsKept b new (slice_set runs k left) values
runs_stepped stay are_open b old new runs values k slot left kept at spares ready =
    let count : length (slice_set runs k left) ≡ length runs = length_set runs k left in
    let calls : map (λ (s : Slot). run_call s.run) (slice_set runs k left) ≡ map (λ (s : Slot). run_call s.run) runs =
    map_set (λ (s : Slot). run_call s.run) runs k left ∙ ap (slice_set (map (λ (s : Slot). run_call s.run) runs) k) spares.call
    ∙ set_same (map (λ (s : Slot). run_call s.run) runs) k (run_call slot.run) (map_at (λ (s : Slot). run_call s.run) runs k slot at) in
    record {
      sound = kept.sound;
      few = subst (λ n. n ≤ length b.running) (sym count) kept.few;
      taken = subst (λ n. Every (λ (r : RunningCall). r.taken ≡ true) (take n b.running)) (sym count) kept.taken;
      left = subst (λ n. Every (λ (r : RunningCall). r.taken ≡ false) (drop n b.running)) (sym count) kept.left;
      calls = calls ∙ kept.calls ∙ ap (λ n. map call_running (take n b.running)) (sym count);
      ready = ready_set stay are_open old new slot left spares runs k at kept.apart ready kept.ready;
      apart = apart_set stay are_open old new slot left spares runs k at kept.apart kept.ready;
      served = λ part pages at_part page stamp there. spares.serves stamp (kept.served part pages at_part page stamp there);
      short = kept.short;
      opening = λ a agrees. kept.opening a (spares.kept a agrees);
      entries = λ a agrees. kept.entries a (spares.kept a agrees);
    }

-- no call runs whose number no run has
none_running : (files : List File) (runs : List Slot) (running : List RunningCall) (n : ℕ) → Every (λ (s : Slot). s.number ≢ n) runs → Every (IsReady files) runs
    → map (λ (s : Slot). run_call s.run) runs ≡ map call_running (take (length runs) running) → length runs ≡ length running → list_any (λ (r : RunningCall). r.number == n) running ≡ false
none_running files [] [] n others ready calls all = refl
none_running files [] (r ∷ rs) n others ready calls all = absurd (omega (arith, all))
none_running files (s ∷ ss) [] n others ready calls all = absurd (omega (arith, all))
none_running files (s ∷ ss) (r ∷ rs) n others ready calls all =
    let number : s.number ≡ r.number = ready.0.number ∙ ap (λ (c : Call). c.number) (head_is calls) in
    elim (eqb_tells r.number n) [
      | inl same ↦ absurd (others.0 (number ∙ same.1))
      | inr other ↦ ap (λ b. b || list_any (λ (x : RunningCall). x.number == n) rs) other.0 ∙ none_running files ss rs n others.1 ready.1 (tail_is calls) (omega (arith, all))
    ]
  where
    head_is : {Z : Type 0} {z w : Z} {zs ws : List Z} → z ∷ zs ≡ w ∷ ws → z ≡ w
    head_is e = cc

    tail_is : {Z : Type 0} {z w : Z} {zs ws : List Z} → z ∷ zs ≡ w ∷ ws → zs ≡ ws
    tail_is e = cc

pub not_running : (b : Board) (files : List File) (runs : List Slot) (values : List Contents) (n : ℕ) → IsKept b files runs values → length runs ≡ length b.running → Every (λ (s : Slot). s.number ≢ n) runs → runs_in b n ≡ false
not_running b files runs values n kept all others = none_running files runs b.running n others kept.ready kept.calls all

-- the run of the call of this number
pub run_at : (b : Board) (files : List File) (runs : List Slot) (values : List Contents) (k n : ℕ) (slot : Slot) → IsKept b files runs values → slice_get runs k ≡ Some slot → slot.number ≡ n
    → IsRunAt (map standing_of runs) k n (standing_of slot)
run_at b files runs values k n slot kept at number =
    let its = its_call b files runs values k slot kept at in
    let own : (run_call slot.run).number ≡ n = sym (Every-at (IsReady files) runs k slot kept.ready at).number ∙ number in
    record {
      there = map_at standing_of runs k slot at;
      number = own;
      only = λ j other there same. (
          let x = of_map_at standing_of runs j other there in
          let theirs = its_call b files runs values j x.0 kept x.1 in
          one_place (λ (r : RunningCall). r.number) b.running j k theirs.0 its.0 kept.sound.counted.apart theirs.1 its.1
          (sym (ap (λ (c : Call). c.number) theirs.2) ∙ ap (λ (s : Standing). s.call.number) x.2 ∙ same ∙ sym own ∙ ap (λ (c : Call). c.number) its.2));
    }

-- a run that has a call to make has not ended
pub not_ended : (place : Place) → need_at place ≢ needs.Done → ending_at place ≡ None
not_ended (at_read part page) more = refl
not_ended (at_page known part page) more = refl
not_ended (at_create writes sealed) more = refl
not_ended (at_append writes sealed) more = refl
not_ended (at_seal writes sealed) more = refl
not_ended (at_end reply sealed) more = absurd (more refl)

-- the pin of the part that a run reads is short, where those are that are published
few_read : (run : Run) (part page : ℕ) (pages : List Stamp) → (Reads (body_of (run_call run).operation).statements part → length pages ≤ most_pages) → run_place run ≡ at_read part page → length pages ≤ most_pages
few_read run part page pages short at = elim (cases_lt most_pages (length pages)) [
  | inl long ↦ absurd (run.reading part (subst (λ (p : Place). IsReadAt p part) (sym at) refl) (λ reads. let few = short reads in omega (arith, long, few)))
  | inr few ↦ few
]

judged_near : (call : Call) (known : List ℕ) (place : Place) → IsJudged call known place → IsNear place
judged_near call known place (changed some) = tt
judged_near call known place not_changed = tt
judged_near call known place (wants next) = next.few

-- a step leads to a page that has one of the places that a page may have
follows_near : (call : Call) (before after : Place) → ((part page : ℕ) (pages : List Stamp) → before ≡ at_read part page → pin_at call.pins part ≡ Some pages → length pages ≤ most_pages) → Follows call before after
    → IsNear before → IsNear after
follows_near call before after short (reads_on {part = part} {page = page} pages pin more front) near = omega (arith, more, short part page pages refl pin)
follows_near call before after short (reads_next last next) near = omega arith
follows_near call before after short (reads_last known last none few judged) near = judged_near call known after judged
follows_near call before after short (misses front) near = tt
follows_near call before after short (pages_on known one less judged) near = judged_near call known after judged
follows_near call before after short creates near = tt
follows_near call before after short appends near = tt
follows_near call before after short (seals_on one more) near = tt
follows_near call before after short (seals_last one all) near = tt
follows_near call before after short (fails fault going) near = tt
follows_near call before after short stays near = tt

-- the pins of a running call are short
pub step_near : (b : Board) (files : List File) (runs : List Slot) (values : List Contents) (k : ℕ) (slot left : Slot) → IsKept b files runs values → slice_get runs k ≡ Some slot
    → Follows (run_call slot.run) (run_place slot.run) (run_place left.run) → IsNear (run_place left.run)
step_near b files runs values k slot left kept at follows =
    let its = its_call b files runs values k slot kept at in
    let r : RunningCall = its.0 in
    let pinned : IsPinned b.pins r = Every-at (IsPinned b.pins) b.running k r kept.sound.pinned.pinned its.1 in
    let short : (part : ℕ) (pages : List Stamp) → pin_at (run_call slot.run).pins part ≡ Some pages → Reads (body_of (run_call slot.run).operation).statements part → length pages ≤ most_pages =
    λ part pages pin reads. kept.short part pages (pinned part (subst (λ (c : Call). Reads (body_of c.operation).statements part) its.2 reads) ∙ subst (λ (c : Call). pin_at c.pins part ≡ Some pages) its.2 pin) in
    follows_near (run_call slot.run) (run_place slot.run) (run_place left.run) (λ part page pages there pin. few_read slot.run part page pages (short part pages pin) there) follows
    (Every-at (IsReady files) runs k slot kept.ready at).near

-- the run itself after its step
pub one_ready : (works : Bool) (old new : List File) (slot left : Slot) → Spares old new slot.run left.run → Makes works old new slot.run left.run → left.number ≡ slot.number → IsNear (run_place left.run) → IsReady old slot → IsReady new left
one_ready works old new slot left spares makes number near ready = record {
  pen = makes.pen ready.pen;
  pins = subst (PinsServed (λ s. Serves new s)) (sym spares.call) (λ part page reads pages stamp pin there. spares.serves stamp (ready.pins part page reads pages stamp pin there));
  written = makes.written ready.written;
  found = λ a agrees. makes.found ready.pen a agrees (ready.found a (spares.kept a agrees));
  near = near;
  number = number ∙ ready.number ∙ ap (λ (c : Call). c.number) (sym spares.call);
}

-- its step is one by the rule of steps
pub one_moves : (law : ChainedAreLegal) (works : Bool) (b : Board) (old new : List File) (runs : List Slot) (values : List Contents) (k : ℕ) (slot left : Slot) → IsKept b old runs values → slice_get runs k ≡ Some slot
    → need_at (run_place slot.run) ≢ needs.Done → Spares old new slot.run left.run → Makes works old new slot.run left.run → Moves (standing_of slot) works (run_place left.run)
one_moves law works b old new runs values k slot left kept at more spares makes =
    let ready : IsReady old slot = Every-at (IsReady old) runs k slot kept.ready at in
    let a : Assignment = spares.some.0 in
    let before : HasFiles old a = spares.kept a spares.some.1 in
    let near : IsNear (run_place left.run) = step_near b old runs values k slot left kept at makes.moves in
    let whole : PinsAreWhole a (run_call slot.run) = run_whole b old runs values k slot a kept at before in
    let after : SoFar a left.run = makes.found ready.pen a spares.some.1 (ready.found a before) in
    record {
      follows = makes.moves;
      works = λ on is. makes.works on ready.pen ready.pins (ending_by_place slot.run ∙ not_ended (run_place slot.run) more) (ending_by_place left.run ∙ is);
      fails = λ off. subst (FailsWith (run_place slot.run)) (ending_by_place left.run) (makes.fails off);
      sound = λ is. not_damaged law b old runs values k slot left.run a kept at spares.call before after (ending_by_place left.run ∙ is);
      falls = work_falls (run_call slot.run) (run_place slot.run) (run_place left.run) (run_within a slot.run ready.near whole (ready.found a before)) (run_within a left.run near (subst (PinsAreWhole a) (sym spares.call) whole) after) more makes.moves;
    }

abbrev table : Board → List Contents → List File → List Standing → Scene
table b opening files runs = record { board = b; opening = opening; files = files; runs = runs }

abbrev said : Place → Option Reply → Option Reply → EventAnswer
said place before after = with_starts (Stepped (need_at place) (step_answer before after)) 0

-- what is answered to a step
pub step_answers : (b : Board) (opening : List Contents) (old new : List File) (runs : List Slot) (k number : ℕ) (works : Bool) (slot left : Slot)
    → IsRunAt (map standing_of runs) k number (standing_of slot) → need_at (run_place slot.run) ≢ needs.Done → Moves (standing_of slot) works (run_place left.run) → run_call left.run ≡ run_call slot.run
    → Answers (table b opening old (map standing_of runs)) (step number works) (said (run_place slot.run) (run_ending slot.run) (run_ending left.run)) (table b opening new (map standing_of (slice_set runs k left)))
step_answers b opening old new runs k number works slot left there more moves call =
    let set : List Standing = slice_set (map standing_of runs) k (record { call = run_call slot.run; place = run_place left.run }) in
    let same : map standing_of (slice_set runs k left) ≡ slice_set (map standing_of runs) k (record { call = run_call slot.run; place = run_place left.run }) =
    map_set standing_of runs k left ∙ ap (λ (c : Call). slice_set (map standing_of runs) k (record { call = c; place = run_place left.run })) call in
    subst (λ (rs : List Standing). Answers (table b opening old (map standing_of runs)) (step number works) (said (run_place slot.run) (run_ending slot.run) (run_ending left.run)) (table b opening new rs)) (sym same)
    (subst (λ (o : Option Reply). Answers (table b opening old (map standing_of runs)) (step number works) (said (run_place slot.run) (run_ending slot.run) o) (table b opening new set)) (sym (ending_by_place left.run))
    (subst (λ (o : Option Reply). Answers (table b opening old (map standing_of runs)) (step number works) (said (run_place slot.run) o (ending_at (run_place left.run))) (table b opening new set)) (sym (ending_by_place slot.run))
    (stepped k (standing_of slot) (run_place left.run) new there more moves)))
