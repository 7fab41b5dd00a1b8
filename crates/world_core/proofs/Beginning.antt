-- The runs of calls that have started.
use Rattle.std.proofs.Common.{◌≡◌, ℕ, zero, suc, ◌+◌, ◌<◌, ◌≤◌, ◌⊎◌, inl, inr, true, false, List, [], ◌∷◌, ◌++◌, length, Option, Some, None, refl, sym, ◌∙◌, ap, subst, arith, take, drop, map, append_assoc}
use Rattle.std.specs.Prelude.{slice_get, slice_set}
use Rattle.value_core.specs.Contents.{Contents}
use Rattle.device_core.specs.declared.file.File.{File}
use Rattle.device_core.specs.declared.hand.Stamp.{Stamp}
use Rattle.device_core.specs.Device.{Assignment}
use Rattle.device_core.specs.Files.{IsOpen, Serves}
use Rattle.page_core.specs.CallPins.{Call, call_of}
use Rattle.run_core.specs.Runs.{run_call, run_pen, run_sealed, run_place, SoFar, AreApart, no_pen}
use Rattle.run_core.specs.Steps.{Place, AreServed, PinsServed, Starts, with_part, with_none}
use Rattle.page_core.specs.Pages.{ArePinsServed}
use Rattle.page_core.specs.Lists.{Every}
use Rattle.page_core.specs.ObjectCalls.{RunningCall, WaitingCall}
use Rattle.board_core.specs.Board.{Board, taken_at}
use Rattle.board_core.specs.Sound.{IsSound, IsPinned}
use Rattle.page_core.proofs.Lists.{Every-at, Every-snoc, EachPair-snoc, Every-all}
use Rattle.page_core.specs.declared.ticket.Ticket.{Ticket}
use Rattle.page_core.specs.Tickets.{ticket_call}
use Rattle.board_core.specs.declared.answer.Collected.{Collected}
use Rattle.board_core.specs.declared.answer.Collected.TheVariants as collects
use Rattle.board_core.specs.Answers.{IsLeft, NoneIsLeft, Collects}
use Rattle.world_core.specs.declared.slot.Slot.{Slot}
use Rattle.world_core.specs.Scene.{Standing, AreBegun, call_running, collected}
use Rattle.world_core.specs.Kept.{IsKept, IsNear, IsReady, HasNew, standing_of}
use Rattle.board_core.specs.declared.event.TraceEvent.{TraceEvent}
use Rattle.board_core.specs.declared.event.TraceEvent.TheVariants.{Start, End}
use Rattle.apply_core.specs.declared.reply.Reply.{Reply}
use Rattle.std.proofs.lemmas.List.{length-map}
use Rattle.board_core.specs.Started.{run_of}
use Rattle.world_core.proofs.Places.{some_is, one_place, take_set, drop_set, drop_at, at_of_drop, within, length_set, length_snoc, map_snoc, all_taken}

-- the call whose ticket was found is the one at this place
pub same_call : (b : Board) (n k m : ℕ) (found r : RunningCall) → IsSound b → IsLeft b n k found → slice_get b.running m ≡ Some r → r.number ≡ n → (k ≡ m) × (found ≡ r)
same_call b n k m found r sound left at number =
    let place : k ≡ m = one_place (λ (x : RunningCall). x.number) b.running k m found r sound.counted.apart left.there at (left.number ∙ sym number) in
    (place, some_is (sym left.there ∙ subst (λ j. slice_get b.running j ≡ Some r) (sym place) at))

-- a ticket is left of a running call that has no run
pub left_there : (b : Board) (files : List File) (runs : List Slot) (opening : List Contents) (r : RunningCall) → IsKept b files runs opening → slice_get b.running (length runs) ≡ Some r → r.taken ≡ false
left_there b files runs opening r kept at = (subst (Every (λ (x : RunningCall). x.taken ≡ false)) (drop_at b.running (length runs) r at) kept.left).0

pub none_left_absurd : (b : Board) (files : List File) (runs : List Slot) (opening : List Contents) (r : RunningCall) (n : ℕ) → IsKept b files runs opening → slice_get b.running (length runs) ≡ Some r → r.number ≡ n → NoneIsLeft b n → ⊥
none_left_absurd b files runs opening r n kept at number none =
    let taken : r.taken ≡ true = Every-at (λ (x : RunningCall). x.number ≡ n → x.taken ≡ true) b.running (length runs) r none at number in
    let left : r.taken ≡ false = left_there b files runs opening r kept at in
    cc

-- the pins of a running call can be read, where the published ones can
pub pins_of_running : (b : Board) (files : List File) (k : ℕ) (r : RunningCall) → IsSound b → slice_get b.running k ≡ Some r → ArePinsServed (λ s. Serves files s) b.pins → PinsServed (λ s. Serves files s) (call_running r)
pins_of_running b files k r sound at served part page reads pages stamp pin there =
    let pinned : IsPinned b.pins r = Every-at (IsPinned b.pins) b.running k r sound.pinned.pinned at in
    served part pages (pinned part reads ∙ pin) page stamp there

-- it begins at a first page
starts_near : (call : Call) (place : Place) → Starts call place → IsNear place
starts_near call place (with_part next) = omega arith
starts_near call place (with_none nothing settled) = tt

-- a run that has just begun is ready
pub begun_ready : (b : Board) (files : List File) (k : ℕ) (r : RunningCall) (slot : Slot) → IsSound b → slice_get b.running k ≡ Some r → ArePinsServed (λ s. Serves files s) b.pins
    → run_call slot.run ≡ call_running r → slot.number ≡ r.number → run_pen slot.run ≡ None → run_sealed slot.run ≡ [] → Starts (run_call slot.run) (run_place slot.run) → ((a : Assignment) → SoFar a slot.run) → IsReady files slot
begun_ready b files k r slot sound at served call number pen sealed starts fresh = record {
  pen = no_pen (λ n bytes. IsOpen files n bytes) slot.run pen;
  pins = subst (PinsServed (λ s. Serves files s)) (sym call) (pins_of_running b files k r sound at served);
  written = subst (λ (stamps : List Stamp). AreServed (λ s. Serves files s) stamps) (sym sealed) tt;
  found = λ a agrees. fresh a;
  near = starts_near (run_call slot.run) (run_place slot.run) starts;
  number = number ∙ ap (λ (c : Call). c.number) (sym call);
}

-- with the run of one call more
pub one_begun : (b : Board) (files : List File) (runs : List Slot) (opening : List Contents) (r : RunningCall) (slot : Slot) → IsKept b files runs opening → slice_get b.running (length runs) ≡ Some r
    → IsSound (taken_at b (length runs) r) → run_call slot.run ≡ call_running r → IsReady files slot → run_pen slot.run ≡ None → IsKept (taken_at b (length runs) r) files (runs ++ slot ∷ []) opening
unfolding taken_at
one_begun b files runs opening r slot kept at sound call ready pen =
    let taken : RunningCall = record r { taken = true } in
    let count : length (runs ++ slot ∷ []) ≡ suc (length runs) = length_snoc runs slot in
    let front : take (length (runs ++ slot ∷ [])) (slice_set b.running (length runs) taken) ≡ take (length runs) b.running ++ taken ∷ [] =
    ap (λ k. take k (slice_set b.running (length runs) taken)) count ∙ take_set b.running (length runs) r taken at in
    record {
      sound = sound;
      few = omega (arith, count, length_set b.running (length runs) taken, within b.running (length runs) r at);
      taken = subst (Every (λ (x : RunningCall). x.taken ≡ true)) (sym front) (Every-snoc (λ (x : RunningCall). x.taken ≡ true) (take (length runs) b.running) taken kept.taken refl);
      left = subst (Every (λ (x : RunningCall). x.taken ≡ false)) (sym (ap (λ k. drop k (slice_set b.running (length runs) taken)) count ∙ drop_set b.running (length runs) r taken at))
          (subst (Every (λ (x : RunningCall). x.taken ≡ false)) (drop_at b.running (length runs) r at) kept.left).1;
      calls = map_snoc (λ (s : Slot). run_call s.run) runs slot ∙ ap (λ cs. cs ++ run_call slot.run ∷ []) kept.calls ∙ ap (λ c. map call_running (take (length runs) b.running) ++ c ∷ []) call
          ∙ sym (ap (map call_running) front ∙ map_snoc call_running (take (length runs) b.running) taken);
      ready = Every-snoc (IsReady files) runs slot kept.ready ready;
      apart = EachPair-snoc (λ (x y : Slot). AreApart x.run y.run) runs slot kept.apart (Every-all (λ (x : Slot). AreApart x.run slot.run) (λ x n its other. none_of x n (sym pen ∙ other)) runs);
      served = kept.served;
      short = kept.short;
      opening = kept.opening;
      entries = kept.entries;
    }
  where
    none_of : (x : Slot) (n : ℕ) → ◌≡◌ {A = Option ℕ} None (Some n) → ⊥
    none_of x n is = absurd cc

-- the same, whether tickets were taken
pub collected_set : (xs : List RunningCall) (k : ℕ) (r : RunningCall) → slice_get xs k ≡ Some r
    → map (λ (x : RunningCall). record x { taken = true }) (slice_set xs k (record r { taken = true })) ≡ map (λ (x : RunningCall). record x { taken = true }) xs
collected_set [] k r at = absurd cc
collected_set (x ∷ xs) zero r at = ap (λ (y : RunningCall). record y { taken = true } ∷ map (λ (z : RunningCall). record z { taken = true }) xs) (sym (some_is at))
collected_set (x ∷ xs) (suc k) r at = ap (λ ys. record x { taken = true } ∷ ys) (collected_set xs k r at)

pub collected_taken : (b : Board) (k : ℕ) (r : RunningCall) → slice_get b.running k ≡ Some r → collected (taken_at b k r) ≡ collected b
unfolding taken_at
collected_taken b k r at = ap (λ (rs : List RunningCall). record b { running = rs }) (collected_set b.running k r at)

taken_same : (xs : List RunningCall) → Every (λ (x : RunningCall). x.taken ≡ true) xs → map (λ (x : RunningCall). record x { taken = true }) xs ≡ xs
taken_same [] all = refl
taken_same (x ∷ xs) all = ap (λ t. record x { taken = t } ∷ map (λ (z : RunningCall). record z { taken = true }) xs) (sym all.0) ∙ ap (λ ys. x ∷ ys) (taken_same xs all.1)

-- where each running call has its run, each ticket was taken
pub all_collected : (b : Board) (files : List File) (runs : List Slot) (opening : List Contents) → IsKept b files runs opening → length runs ≡ length b.running → collected b ≡ b
all_collected b files runs opening kept all =
    ap (λ (rs : List RunningCall). record b { running = rs }) (taken_same b.running (subst (Every (λ (x : RunningCall). x.taken ≡ true)) (ap (λ k. take k b.running) all ∙ all_taken b.running) kept.taken))

-- the next of the calls that have started, and the others
pub new_more : (b : Board) (m from : ℕ) (w : WaitingCall) (ones : List WaitingCall) → HasNew b m from (w ∷ ones)
    → (slice_get b.running m ≡ Some (run_of b.pins w)) × (slice_get b.trace from ≡ Some (Start w.number)) × HasNew (taken_at b m (run_of b.pins w)) (suc m) (suc from) ones
unfolding taken_at
new_more b m from w ones new =
    let running : drop m b.running ≡ run_of b.pins w ∷ map (run_of b.pins) ones = new.running in
    let trace : drop from b.trace ≡ Start w.number ∷ map (λ (x : WaitingCall). Start x.number) ones = new.trace in
    let at : slice_get b.running m ≡ Some (run_of b.pins w) = at_of_drop b.running m (run_of b.pins w) (map (run_of b.pins) ones) running in
    let there : slice_get b.trace from ≡ Some (Start w.number) = at_of_drop b.trace from (Start w.number) (map (λ (x : WaitingCall). Start x.number) ones) trace in (
      at,
      there,
      record {
        running = drop_set b.running m (run_of b.pins w) (record (run_of b.pins w) { taken = true }) at ∙ tail_is (sym (drop_at b.running m (run_of b.pins w) at) ∙ running);
        trace = tail_is (sym (drop_at b.trace from (Start w.number) there) ∙ trace);
        within = omega (arith, within b.trace from (Start w.number) there);
      },
    )
  where
    tail_is : {X : Type 0} {x y : X} {xs ys : List X} → x ∷ xs ≡ y ∷ ys → xs ≡ ys
    tail_is e = cc

-- the trace goes on only with the starts of these
pub new_none : (b : Board) (m from : ℕ) (ones : List WaitingCall) → HasNew b m from ones → slice_get b.trace from ≡ None → ones ≡ []
new_none b m from [] new none = refl
new_none b m from (w ∷ ones) new none = let at = (new_more b m from w ones new).1 in absurd cc

pub new_is : (b : Board) (m from : ℕ) (ones : List WaitingCall) (e : TraceEvent) → HasNew b m from ones → slice_get b.trace from ≡ Some e
    → (w : WaitingCall) × (more : List WaitingCall) × (ones ≡ w ∷ more) × (e ≡ Start w.number)
new_is b m from [] e new at = absurd (let is : drop from b.trace ≡ [] = new.trace in let more = drop_at b.trace from e at in cc)
new_is b m from (w ∷ ones) e new at = (w, ones, refl, some_is (sym at ∙ (new_more b m from w ones new).1))

-- none is left
pub none_new : (b : Board) (files : List File) (runs : List Slot) (opening : List Contents) (from : ℕ) → IsKept b files runs opening → HasNew b (length runs) from [] → length runs ≡ length b.running
none_new b files runs opening from kept new = omega (arith, kept.few, no_more b.running (length runs) new.running)
  where
    no_more : (xs : List RunningCall) (k : ℕ) → drop k xs ≡ [] → length xs ≤ k
    no_more [] k is = omega arith
    no_more (x ∷ xs) zero is = absurd cc
    no_more (x ∷ xs) (suc k) is = omega (arith, no_more xs k is)

-- what is found where no ticket is handed out
pub found_none : (b : Board) (n : ℕ) (result : Collected) (after : Board) → Collects b n result after → (result ≡ collects.Waiting) ⊎ ((result ≡ collects.Cancelled) ⊎ (result ≡ collects.Unknown)) → NoneIsLeft b n
found_none b n (collects.Ticket t) after found is = absurd (elim is [ inl e ↦ absurd cc | inr more ↦ elim more [ inl e ↦ absurd cc | inr e ↦ absurd cc ] ])
found_none b n collects.Waiting after found is = found.0
found_none b n collects.Cancelled after found is = found.0
found_none b n collects.Unknown after found is = found.0

-- the ticket of a call that has no run
pub ticket_found : (b : Board) (files : List File) (runs : List Slot) (opening : List Contents) (n : ℕ) (r : RunningCall) (t : Ticket) (after : Board) → IsKept b files runs opening → slice_get b.running (length runs) ≡ Some r → r.number ≡ n
    → Collects b n (collects.Ticket t) after → (after ≡ taken_at b (length runs) r) × (ticket_call t ≡ call_running r)
ticket_found b files runs opening n r t after kept at number (k, found, left, call, is) =
    let same = same_call b n k (length runs) found r kept.sound left at number in (
      is ∙ ap (λ j. taken_at b j found) same.0 ∙ ap (λ (x : RunningCall). taken_at b (length runs) x) same.1,
      call ∙ ap (λ (x : RunningCall). call_of n x.call.operation x.call.arguments x.pins) same.1 ∙ ap (λ j. call_of j r.call.operation r.call.arguments r.pins) (sym number),
    )

-- behind the end of the trace no call is new
pub new_over : (b : Board) (m from : ℕ) (ones : List WaitingCall) → HasNew b m from ones → length b.trace ≤ from → ones ≡ []
new_over b m from [] new over = refl
new_over b m from (w ∷ ones) new over = absurd (omega (arith, over, within b.trace from (Start w.number) (new_more b m from w ones new).1))

no_event : (xs : List TraceEvent) (k : ℕ) → k < length xs → slice_get xs k ≡ None → ⊥
no_event [] k low none = omega (arith, low)
no_event (x ∷ xs) zero low none = cc
no_event (x ∷ xs) (suc k) low none = no_event xs k (omega (arith, low)) none

pub event_there : (b : Board) (from : ℕ) → from < length b.trace → slice_get b.trace from ≡ None → ⊥
event_there b from low none = no_event b.trace from low none

-- the event there is the start of the first of them
pub next_new : (b : Board) (m from : ℕ) (ones : List WaitingCall) (e : TraceEvent) → HasNew b m from ones → slice_get b.trace from ≡ Some e
    → (w : WaitingCall) × (more : List WaitingCall) × HasNew b m from (w ∷ more) × (ones ≡ w ∷ more) × (e ≡ Start w.number)
next_new b m from ones e new at =
    let is = new_is b m from ones e new at in
    (is.0, is.1, subst (HasNew b m from) is.2 new, is.2, is.3)

pub not_end : (b : Board) (m from : ℕ) (ones : List WaitingCall) (n : ℕ) (reply : Reply) → HasNew b m from ones → slice_get b.trace from ≡ Some (End n reply) → ⊥
not_end b m from ones n reply new at = let is = (next_new b m from ones (End n reply) new at).4 in cc

-- there are as many of them as running calls that have no run
pub new_few : (b : Board) (m from : ℕ) (ones : List WaitingCall) → HasNew b m from ones → length ones ≤ length b.running
new_few b m from ones new = omega (arith, sym (length-map ones (run_of b.pins)), ap (λ (rs : List RunningCall). length rs) (sym new.running), drop_le b.running m)
  where
    drop_le : (xs : List RunningCall) (k : ℕ) → length (drop k xs) ≤ length xs
    drop_le [] zero = omega arith
    drop_le [] (suc k) = omega arith
    drop_le (x ∷ xs) zero = omega arith
    drop_le (x ∷ xs) (suc k) = omega (arith, drop_le xs k)

pub taken_trace : (b : Board) (k : ℕ) (r : RunningCall) → ((taken_at b k r).trace ≡ b.trace) × ((taken_at b k r).pins ≡ b.pins)
unfolding taken_at
taken_trace b k r = (refl, refl)

-- what is left after the first of them has its run
pub record IsNextRun (b mid : Board) (runs mid_runs : List Slot) (from : ℕ) (w : WaitingCall) (more : List WaitingCall) : Type 0 where
  pub trace : mid.trace ≡ b.trace
  pub pins : mid.pins ≡ b.pins
  pub collected : collected mid ≡ collected b
  pub new : HasNew mid (length mid_runs) (from + 1) more
  pub slot : Slot
  pub items : mid_runs ≡ runs ++ slot ∷ []
  pub call : run_call slot.run ≡ call_running (run_of b.pins w)
  pub starts : Starts (run_call slot.run) (run_place slot.run)

pub next_run : (b mid : Board) (runs mid_runs : List Slot) (from : ℕ) (w : WaitingCall) (more : List WaitingCall) → HasNew b (length runs) from (w ∷ more)
    → ((r : RunningCall) → slice_get b.running (length runs) ≡ Some r → mid ≡ taken_at b (length runs) r)
    → ((r : RunningCall) → slice_get b.running (length runs) ≡ Some r → (slot : Slot) × (mid_runs ≡ runs ++ slot ∷ []) × (run_call slot.run ≡ call_running r) × Starts (run_call slot.run) (run_place slot.run))
    → IsNextRun b mid runs mid_runs from w more
next_run b mid runs mid_runs from w more new desk made =
    let parts = new_more b (length runs) from w more new in
    let same = desk (run_of b.pins w) parts.0 in
    let one = made (run_of b.pins w) parts.0 in
    let kept = taken_trace b (length runs) (run_of b.pins w) in
    let one_on : suc from ≡ from + 1 = omega arith in
    let count : length mid_runs ≡ suc (length runs) = ap (λ (ss : List Slot). length ss) one.1 ∙ length_snoc runs one.0 in
    record {
      trace = ap (λ (x : Board). x.trace) same ∙ kept.0;
      pins = ap (λ (x : Board). x.pins) same ∙ kept.1;
      collected = ap collected same ∙ collected_taken b (length runs) (run_of b.pins w) parts.0;
      new = subst (λ k. HasNew mid (length mid_runs) k more) one_on (subst (λ (x : Board). HasNew x (length mid_runs) (suc from) more) (sym same) (subst (λ k. HasNew (taken_at b (length runs) (run_of b.pins w)) k (suc from) more) (sym count) parts.2));
      slot = one.0;
      items = one.1;
      call = one.2;
      starts = one.3;
    }

-- the runs of all of them
pub all_begun : (b mid : Board) (runs mid_runs last_runs : List Slot) (from others : ℕ) (w : WaitingCall) (more ones : List WaitingCall) → IsNextRun b mid runs mid_runs from w more → ones ≡ w ∷ more
    → (others ≡ length more) × ((begun : List Standing) × AreBegun (map (run_of mid.pins) more) begun × (map standing_of last_runs ≡ map standing_of mid_runs ++ begun))
    → (1 + others ≡ length ones) × ((begun : List Standing) × AreBegun (map (run_of b.pins) ones) begun × (map standing_of last_runs ≡ map standing_of runs ++ begun))
all_begun b mid runs mid_runs last_runs from others w more ones next are (count, (begun, begin, rest)) = (
  omega (arith, count, ap (λ (ws : List WaitingCall). length ws) are),
  (
    standing_of next.slot ∷ begun,
    subst (λ (ws : List WaitingCall). AreBegun (map (run_of b.pins) ws) (standing_of next.slot ∷ begun)) (sym are) (next.call, next.starts, subst (λ pins. AreBegun (map (run_of pins) more) begun) next.pins begin),
    rest ∙ ap (λ (ss : List Slot). map standing_of ss ++ begun) next.items ∙ ap (λ ss. ss ++ begun) (map_snoc standing_of runs next.slot) ∙ append_assoc (map standing_of runs) (standing_of next.slot ∷ []) begun,
  ),
)
