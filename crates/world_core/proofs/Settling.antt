-- What an event leaves, where admission follows.
use Rattle.std.proofs.Common.{◌≡◌, ℕ, ◌<◌, ◌≤◌, ◌⊎◌, inl, inr, true, false, List, [], ◌∷◌, ◌++◌, length, refl, sym, ◌∙◌, ap, subst, arith, take, drop, map, length-append}
use Rattle.std.proofs.lemmas.Bool.{cases_lt}
use Rattle.std.specs.Prelude.{Err}
use Rattle.value_core.specs.Contents.{Contents}
use Rattle.device_core.specs.declared.file.File.{File}
use Rattle.device_core.specs.declared.hand.Stamp.{Stamp}
use Rattle.device_core.specs.Device.{Assignment}
use Rattle.device_core.specs.Files.{HasFiles, Serves, files_of}
use Rattle.page_core.specs.Pages.{ArePinsServed}
use Rattle.run_core.specs.Runs.{run_call, AreApart}
use Rattle.board_core.specs.declared.event.TraceEvent.{TraceEvent}
use Rattle.board_core.specs.declared.event.TraceEvent.TheVariants.{Start}
use Rattle.page_core.specs.Lists.{Every, EachPair}
use Rattle.page_core.specs.ObjectCalls.{AcceptedCall, RunningCall, WaitingCall}
use Rattle.board_core.specs.Board.{Board, Rests, joined, dismissed, released, marked}
use Rattle.board_core.specs.Keys.{resumed}
use Rattle.board_core.specs.Started.{Settles, HasStarted, run_of}
use Rattle.board_core.specs.Chain.{ShowContents, IsTrueEntry}
use Rattle.board_core.specs.Sound.{IsSound, kinds_of}
use Rattle.guest_core.specs.declared.answer.Cancelled.{Cancelled}
use Rattle.guest_core.specs.declared.answer.Cancelled.TheVariants as cancels
use Rattle.board_core.specs.Answers.{Asked, Cancels}
use Rattle.board_core.specs.Keyed.{SubmitsKeyed}
use Rattle.guest_core.specs.declared.answer.KeyedFault.{KeyedFault}
use Rattle.guest_core.specs.declared.answer.KeyedFault.TheVariants as faults
use Rattle.world_core.specs.declared.slot.Slot.{Slot}
use Rattle.world_core.specs.declared.stage.WorldTables.{WorldTables}
use Rattle.world_core.specs.Scene.{Scene, Standing, AreBegun, Goes, call_running, collected}
use Rattle.world_core.specs.Kept.{IsKept, ArePinsShort, IsReady, IsStaged, HasNew, standing_of, scene_of}
use Rattle.world_core.proofs.Beginning.{all_collected}
use Rattle.world_core.proofs.Places.{all_taken}

pub drop_front : {X : Type 0} (xs ys : List X) → drop (length xs) (xs ++ ys) ≡ ys
drop_front [] ys = refl
drop_front (x ∷ xs) ys = drop_front xs ys

pub take_front : {X : Type 0} (xs ys : List X) → take (length xs) (xs ++ ys) ≡ xs
take_front [] ys = refl
take_front (x ∷ xs) ys = ap (λ zs. x ∷ zs) (take_front xs ys)

none_taken : (pins : List (List Stamp)) (ones : List WaitingCall) → Every (λ (r : RunningCall). r.taken ≡ false) (map (run_of pins) ones)
none_taken pins [] = tt
none_taken pins (w ∷ ones) = (refl, none_taken pins ones)

-- the calls that start on a board are new to those that have runs
pub has_new : (between settled : Board) (m from : ℕ) (ones : List WaitingCall) → HasStarted between ones settled → m ≡ length between.running → from ≡ length between.trace → HasNew settled m from ones
has_new between settled m from ones started runs trace = record {
  running = ap (λ k. drop k settled.running) runs ∙ ap (drop (length between.running)) started.running ∙ drop_front between.running (map (run_of between.pins) ones) ∙ ap (λ pins. map (run_of pins) ones) (sym started.pins);
  trace = ap (λ k. drop k settled.trace) trace ∙ ap (drop (length between.trace)) started.trace ∙ drop_front between.trace (map (λ (w : WaitingCall). Start w.number) ones);
  within = omega (arith, trace, ap (λ (es : List TraceEvent). length es) started.trace ∙ length-append between.trace (map (λ (w : WaitingCall). Start w.number) ones));
}

-- the runs of the calls that ran before are those that have runs then
pub kept_settled : (between settled : Board) (ones : List WaitingCall) (files : List File) (runs : List Slot) (values : List Contents) → HasStarted between ones settled → IsSound settled
    → Every (λ (r : RunningCall). r.taken ≡ true) between.running → map (λ (s : Slot). run_call s.run) runs ≡ map call_running between.running → length runs ≡ length between.running
    → Every (IsReady files) runs → EachPair (λ (x y : Slot). AreApart x.run y.run) runs → ArePinsServed (λ s. Serves files s) between.pins → ArePinsShort between.pins
    → ((a : Assignment) → HasFiles files a → ShowContents a (kinds_of between.object) between.opening values) → ((a : Assignment) → HasFiles files a → Every (IsTrueEntry a) between.history)
    → IsKept settled files runs values
kept_settled between settled ones files runs values started sound taken calls count ready apart served short opening entries =
    let front : take (length runs) settled.running ≡ between.running = ap (λ k. take k settled.running) count ∙ ap (take (length between.running)) started.running ∙ take_front between.running (map (run_of between.pins) ones) in
    let back : drop (length runs) settled.running ≡ map (run_of between.pins) ones = ap (λ k. drop k settled.running) count ∙ ap (drop (length between.running)) started.running ∙ drop_front between.running (map (run_of between.pins) ones) in
    record {
      sound = sound;
      few = omega (arith, count, ap (λ (rs : List RunningCall). length rs) started.running ∙ length-append between.running (map (run_of between.pins) ones));
      taken = subst (Every (λ (r : RunningCall). r.taken ≡ true)) (sym front) taken;
      left = subst (Every (λ (r : RunningCall). r.taken ≡ false)) (sym back) (none_taken between.pins ones);
      calls = calls ∙ ap (map call_running) (sym front);
      ready = ready;
      apart = apart;
      served = subst (ArePinsServed (λ s. Serves files s)) (sym started.pins) served;
      short = subst ArePinsShort (sym started.pins) short;
      opening = λ a agrees. subst (λ o. ShowContents a (kinds_of o) settled.opening values) (sym started.object) (subst (λ pins. ShowContents a (kinds_of between.object) pins values) (sym started.opening) (opening a agrees));
      entries = λ a agrees. subst (Every (IsTrueEntry a)) (sym started.history) (entries a agrees);
    }

-- the same where the event changed neither what runs, nor pins, nor the history
pub kept_same : (old between settled : Board) (ones : List WaitingCall) (files : List File) (runs : List Slot) (values : List Contents) → IsKept old files runs values → length runs ≡ length old.running
    → between.running ≡ old.running → between.pins ≡ old.pins → between.opening ≡ old.opening → between.object ≡ old.object → between.history ≡ old.history
    → HasStarted between ones settled → IsSound settled → IsKept settled files runs values
kept_same old between settled ones files runs values kept all running pins opening object history started sound =
    let whole : take (length runs) old.running ≡ between.running = ap (λ k. take k old.running) all ∙ all_taken old.running ∙ sym running in
    kept_settled between settled ones files runs values started sound
    (subst (Every (λ (r : RunningCall). r.taken ≡ true)) whole kept.taken)
    (kept.calls ∙ ap (map call_running) whole)
    (all ∙ ap (λ (rs : List RunningCall). length rs) (sym running))
    kept.ready kept.apart
    (subst (ArePinsServed (λ s. Serves files s)) (sym pins) kept.served)
    (subst ArePinsShort (sym pins) kept.short)
    (λ a agrees. subst (λ o. ShowContents a (kinds_of o) between.opening values) (sym object) (subst (λ ps. ShowContents a (kinds_of old.object) ps values) (sym opening) (kept.opening a agrees)))
    (λ a agrees. subst (Every (IsTrueEntry a)) (sym history) (kept.entries a agrees))

-- what the runs of the calls that started make of a world
pub goes : (old : Scene) (between settled : Board) (kept begun : List Standing) (starts : ℕ) (new : Scene) (settles : Settles between settled) → new.board ≡ collected settled → starts ≡ length settles.ones
    → AreBegun (map (run_of settled.pins) settles.ones) begun → new.runs ≡ kept ++ begun → new.files ≡ old.files → new.opening ≡ old.opening → Goes old between kept starts new
goes old between settled kept begun starts new settles board count begin runs files opening = record {
  settled = settled;
  settles = settles;
  board = board;
  starts_are = count;
  begun = begun;
  begin = subst (λ pins. AreBegun (map (run_of pins) settles.ones) begun) settles.started.pins begin;
  runs = runs;
  files = files;
  opening = opening;
}

-- a taken ticket lets no call start
pub rests_collected : (b : Board) → Rests b → Rests (collected b)
rests_collected b rests = rests

-- an event that changed neither what runs and what happened, nor pins, nor the history
pub record IsBetween (old between : Board) : Type 0 where
  pub object : between.object ≡ old.object
  pub running : between.running ≡ old.running
  pub trace : between.trace ≡ old.trace
  pub history : between.history ≡ old.history
  pub opening : between.opening ≡ old.opening
  pub pins : between.pins ≡ old.pins

pub joined_between : (b : Board) (call : AcceptedCall) → IsBetween b (joined b call)
unfolding joined
joined_between b call = record { object = refl; running = refl; trace = refl; history = refl; opening = refl; pins = refl }

pub dismissed_between : (b : Board) (n : ℕ) → IsBetween b (dismissed b n)
unfolding dismissed
dismissed_between b n = record { object = refl; running = refl; trace = refl; history = refl; opening = refl; pins = refl }

pub left_between : (b : Board) (session : ℕ) → IsBetween b (marked (released b session) session)
unfolding marked released
left_between b session = record { object = refl; running = refl; trace = refl; history = refl; opening = refl; pins = refl }

pub event_kept : (old between settled : Board) (files : List File) (runs : List Slot) (values : List Contents) → IsBetween old between → Settles between settled → IsKept old files runs values → length runs ≡ length old.running
    → IsSound settled → IsKept settled files runs values
event_kept old between settled files runs values is settles kept all sound =
    kept_same old between settled settles.ones files runs values kept all is.running is.pins is.opening is.object is.history settles.started sound

pub event_new : (old between settled : Board) (m from : ℕ) (is : IsBetween old between) (settles : Settles between settled) → m ≡ length old.running → from ≡ length old.trace → HasNew settled m from settles.ones
event_new old between settled m from is settles all before =
    has_new between settled m from settles.ones settles.started (all ∙ ap (λ (rs : List RunningCall). length rs) (sym is.running)) (before ∙ ap (λ (es : List TraceEvent). length es) (sym is.trace))

-- the runs of the calls that started behind an event
pub event_goes : (old new : WorldTables) (between settled : Board) (runs : List Slot) (from starts : ℕ) (settles : Settles between settled) → HasNew settled (length runs) from settles.ones → IsStaged new → collected new.desk ≡ collected settled
    → ((ones : List WaitingCall) → HasNew settled (length runs) from ones → (starts ≡ length ones) × ((begun : List Standing) × AreBegun (map (run_of settled.pins) ones) begun × (map standing_of new.runs.items ≡ map standing_of runs ++ begun)))
    → files_of new.hand ≡ files_of old.hand → new.opening.items ≡ old.opening.items → Goes (scene_of old) between (map standing_of runs) starts (scene_of new)
event_goes old new between settled runs from starts settles has staged same made files opening =
    let all = made settles.ones has in
    goes (scene_of old) between settled (map standing_of runs) all.1.0 starts (scene_of new) settles
    (sym (all_collected new.desk (files_of new.hand) new.runs.items new.opening.items staged.kept staged.all) ∙ same) all.0 all.1.1 all.1.2 files opening

-- a cancel that takes no call out changes nothing
pub not_dismissed : (b after : Board) (n : ℕ) (answer : Cancelled) → Cancels b n answer after → (answer ≡ cancels.Cancelled → ⊥) → after ≡ b
not_dismissed b after n cancels.Cancelled is none = absurd (none refl)
not_dismissed b after n cancels.Running is none = is.2
not_dismissed b after n cancels.Ended is none = is.3
not_dismissed b after n cancels.Unknown is none = is.3

-- a call under a key that is refused changes nothing
pub refused_key : (b after : Board) (a : Asked) (key : ℕ) (fault : KeyedFault) → SubmitsKeyed b a key (Err fault) after → (after ≡ b) × SubmitsKeyed b a key (Err fault) b
refused_key b after a key faults.Gone is = (is.1, (is.0, refl))
refused_key b after a key faults.BadKey is = (is.2, (is.0, is.1, refl))
refused_key b after a key faults.KeyReused is = (is.2, (is.0, is.1, refl))
refused_key b after a key (faults.Submit fault) is = (is.3, (is.0, is.1, is.2, refl))

-- What is kept of a world depends on the marks of the sessions that left by the board's soundness alone.
pub resumed_kept : (b : Board) (session : ℕ) (files : List File) (runs : List Slot) (values : List Contents) → IsSound (resumed b session) → IsKept b files runs values → IsKept (resumed b session) files runs values
unfolding resumed
resumed_kept b session files runs values sound kept = record {
  sound = sound;
  few = kept.few;
  taken = kept.taken;
  left = kept.left;
  calls = kept.calls;
  ready = kept.ready;
  apart = kept.apart;
  served = kept.served;
  short = kept.short;
  opening = kept.opening;
  entries = kept.entries;
}

pub resumed_running : (b : Board) (session : ℕ) → (resumed b session).running ≡ b.running
unfolding resumed
resumed_running b session = refl

-- a session has a number from 1 to 1,024, or it has not
pub outside : (session : ℕ) → (0 < session → session ≤ 1024 → ⊥) → (session ≡ 0) ⊎ (1024 < session)
outside session never = elim (cases_lt 0 session) [
  | inl above ↦ elim (cases_lt 1024 session) [ inl past ↦ inr past | inr within ↦ absurd (never above within) ]
  | inr zero ↦ inl (omega (arith, zero))
]

pub within_sessions : (session : ℕ) → ((session ≡ 0) ⊎ (1024 < session) → ⊥) → (0 < session) × (session ≤ 1024)
within_sessions session never = (
  elim (cases_lt 0 session) [ inl above ↦ above | inr zero ↦ absurd (never (inl (omega (arith, zero)))) ],
  elim (cases_lt 1024 session) [ inl past ↦ absurd (never (inr past)) | inr within ↦ within ],
)
