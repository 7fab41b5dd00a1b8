-- Calls that are done in one line.
use Rattle.std.proofs.Common.{◌≡◌, ◌≢◌, ℕ, ◌+◌, ◌<◌, true, false, Bool, List, ◌++◌, length, Option, Some, None, refl, sym, ◌∙◌, ap, subst, arith, add-one, append_assoc}
use Rattle.std.specs.Prelude.{slice_get, Result, Ok, Err, OnOk, MatchOption}
use Rattle.std.proofs.lemmas.Option.{slice_get_within}
use Rattle.value_core.specs.declared.datum.Datum.{Datum}
use Rattle.apply_core.specs.declared.need.Need.{Need}
use Rattle.apply_core.specs.declared.need.Need.TheVariants as needs
use Rattle.apply_core.specs.declared.reply.Reply.{Reply}
use Rattle.run_core.specs.Steps.{need_at}
use Rattle.run_core.specs.declared.step.StepAnswer.{StepAnswer}
use Rattle.page_core.specs.Lists.{Among}
use Rattle.page_core.specs.ObjectCalls.{RunningCall}
use Rattle.board_core.specs.Board.{Board, call_at}
use Rattle.board_core.specs.Sound.{IsSound, IsRunningIn}
use Rattle.board_core.specs.Answers.{Asked, runs_in}
use Rattle.guest_core.specs.declared.answer.SubmitFault.{SubmitFault}
use Rattle.world_core.specs.declared.event.WorldAnswer.TheVariants.{Number, Stepped, Ended, Refused}
use Rattle.world_core.specs.declared.event.EventRefusal.{EventRefusal}
use Rattle.world_core.specs.declared.event.EventRefusal.TheVariants.{NoStep, NotRunning}
use Rattle.world_core.specs.declared.event.EventAnswer.{EventAnswer}
use Rattle.world_core.specs.Scene.{Scene, Standing, IsRunAt}
use Rattle.world_core.specs.Events.{WorldEvent, call, step, finish}
use Rattle.world_core.specs.Answers.{Answers, called, not_called, stepped, no_step, step_not_running, finished, not_done, finish_not_running}
use Rattle.word_core.specs.Said.{Said, a_do}
use Rattle.word_core.specs.Answers.{all_stepped_line}
use Rattle.world_core.specs.Does.{Does, Happens, IsKept, IsTold, StepsOn, call_of, event_lines, next_number, done_at_once, only_called}
use Rattle.world_core.proofs.Unended.{number_found, every_among}

-- the answer tells how a call ended
abbrev pub HasEnded : EventAnswer → Type 0
HasEnded a = (reply : Reply) × (a.answer ≡ Ended reply)

went_no_step : (need : Need) (how : StepAnswer) → Stepped need how ≡ Refused NoStep → ⊥
went_no_step need how is = cc

other_refusal : Refused NotRunning ≡ Refused NoStep → ⊥
other_refusal is = cc

same_run : (x y : Standing) → Some x ≡ Some y → x ≡ y
same_run x y is = cc

-- a call whose run is done ends when it finishes
done_ends : (w new : Scene) (number k : ℕ) (run : Standing) (a : EventAnswer) → IsRunAt w.runs k number run → need_at run.place ≡ needs.Done → runs_in w.board number ≡ true → Answers w (finish number) a new → HasEnded a
done_ends w new number k run a there done runs (finished j r other reply news among at is ends leaves goes) = (reply, refl)
done_ends w new number k run a there done runs (not_done j other at going) =
    let place : j ≡ k = there.only j other at.there at.number in
    let same : other ≡ run = same_run other run (sym (subst (λ i. slice_get w.runs i ≡ Some other) place at.there) ∙ there.there) in
    absurd (going (ap (λ (s : Standing). need_at s.place) same ∙ done))
done_ends w new number k run a there done runs (finish_not_running none) = absurd (let both = sym runs ∙ none in cc)

over_ends_by : (before far new : Scene) (number : ℕ) (last a : EventAnswer) → Answers before (step number true) last far → last.answer ≡ Refused NoStep → runs_in far.board number ≡ true → Answers far (finish number) a new → HasEnded a
over_ends_by before far new number last a (stepped k run after files there going moves) refused runs ends = absurd (went_no_step _ _ refused)
over_ends_by before far new number last a (no_step k run there done) refused runs ends = done_ends far new number k run a there done runs ends
over_ends_by before far new number last a (step_not_running none) refused runs ends = absurd (other_refusal refused)

-- a call that was stepped to its end ends when it finishes
pub over_ends : (old far new : Scene) (number count : ℕ) (a : EventAnswer) → StepsOn number old count far → runs_in far.board number ≡ true → Answers far (finish number) a new → HasEnded a
over_ends old far new number count a (before, made, over) runs ends = over_ends_by before far new number over.a a over.answers over.refused runs ends

not_true : (b : Bool) → (b ≡ true → ⊥) → b ≡ false
not_true true never = absurd (never refl)
not_true false never = refl

-- a call of the next number does not run
next_free : (b : Board) → IsSound b → runs_in b (length b.calls + 1) ≡ false
next_free b sound = not_true (runs_in b (length b.calls + 1)) (λ is. none (number_found (λ (r : RunningCall). r.number) (length b.calls + 1) b.running is))
  where
    none : (r : RunningCall) × Among r b.running × (r.number ≡ length b.calls + 1) → ⊥
    none found =
        let r : RunningCall = found.0 in
        let there : call_at b.calls (length b.calls + 1) ≡ Some r.call = subst (λ m. call_at b.calls m ≡ Some r.call) found.2 (every_among (IsRunningIn b) b.running r sound.counted.runs found.1).call in
        let within : length b.calls < length b.calls = slice_get_within b.calls (length b.calls) r.call (subst (λ n. call_at b.calls n ≡ Some r.call) (add-one (length b.calls)) there) in
        omega (arith, within)

number_is : (n m : ℕ) → Number m ≡ Number n → n ≡ m
number_is n m is = cc

no_number : (refusal : EventRefusal) (n : ℕ) → Refused refusal ≡ Number n → ⊥
no_number refusal n is = cc

-- what runs of a call that was answered so is the call of the next number
pub found_runs : (old new : Scene) (asked : Asked) (a : EventAnswer) (found : Option ℕ) → IsSound old.board → Answers old (call asked) a new
    → MatchOption found ((n : ℕ) → a.answer ≡ Number n → runs_in new.board n ≡ false) (λ n. (a.answer ≡ Number n) × (runs_in new.board n ≡ true))
    → MatchOption found (runs_in new.board (next_number old) ≡ false) (λ n. (n ≡ next_number old) × (runs_in new.board n ≡ true))
found_runs old new asked a None sound (called accepted taken goes) h = h (next_number old) refl
found_runs old new asked a None sound (not_called fault refused) h = next_free old.board sound
found_runs old new asked a (Some n) sound (called accepted taken goes) h = (number_is n (next_number old) h.0, h.1)
found_runs old new asked a (Some n) sound (not_called fault refused) h = absurd (no_number _ n h.0)

-- the steps and the finish of a call are told
pub end_told : {T E : Type 0} (r : Result T E) (old far new : Scene) (number count : ℕ) (out mid last : List ℕ) → StepsOn number old count far → mid ≡ out ++ all_stepped_line number count
    → OnOk r ((x : List ℕ) × (last ≡ mid ++ x) × Happens (finish number) number far x new)
    → OnOk r ((k : ℕ) × (f : Scene) × (x : List ℕ) × (last ≡ out ++ all_stepped_line number k ++ x) × StepsOn number old k f × Happens (finish number) number f x new)
end_told (Ok u) old far new number count out mid last steps first (x, made, so) = (count, far, x, made ∙ ap (λ m. m ++ x) first, steps, so)
end_told (Err e) old far new number count out mid last steps first so = tt

behind : (a b c d : List ℕ) → a ++ b ++ c ++ d ≡ a ++ (b ++ c ++ d)
behind a b c d = ap (λ x. x ++ d) (append_assoc a b c) ∙ append_assoc a (b ++ c) d

-- a call that runs is done
pub call_done : {T E : Type 0} (r : Result T E) (old mid new : Scene) (session : ℕ) (name : List ℕ) (arguments : List Datum) (number : ℕ) (out front last : List ℕ)
    → (x : List ℕ) × (front ≡ out ++ x) × Happens (call_of session name arguments) 0 old x mid → IsKept mid → number ≡ next_number old → runs_in mid.board number ≡ true
    → OnOk r ((k : ℕ) × (f : Scene) × (x : List ℕ) × (last ≡ front ++ all_stepped_line number k ++ x) × StepsOn number mid k f × Happens (finish number) number f x new)
    → OnOk r ((x : List ℕ) × (last ≡ out ++ x) × Does (a_do session name arguments) old x new)
call_done (Ok u) old mid new session name arguments number out front last (x, first, so) kept is_next runs (k, f, y, second, steps, ends) = (
  x ++ all_stepped_line number k ++ y,
  second ∙ ap (λ c. c ++ all_stepped_line number k ++ y) first ∙ behind out x (all_stepped_line number k) y,
  done_at_once so kept is_next runs steps ends,
)
call_done (Err e) old mid new session name arguments number out front last first kept is_next runs so = tt

-- one that does not run is called and no more
pub call_only : (old new : Scene) (session : ℕ) (name : List ℕ) (arguments : List Datum) (out front : List ℕ) → (x : List ℕ) × (front ≡ out ++ x) × Happens (call_of session name arguments) 0 old x new
    → runs_in new.board (next_number old) ≡ false → (x : List ℕ) × (front ≡ out ++ x) × Does (a_do session name arguments) old x new
call_only old new session name arguments out front (x, first, so) none = (x, first, only_called so none)

-- an event whose answer is told
pub event_happens : {T E : Type 0} (r : Result T E) (old new : Scene) (event : WorldEvent) (number : ℕ) (a : EventAnswer) (out after : List ℕ) → Answers old event a new → OnOk r (after ≡ out ++ event_lines new number a) → OnOk r (IsTold a.answer)
    → OnOk r ((x : List ℕ) × (after ≡ out ++ x) × Happens event number old x new)
event_happens (Ok u) old new event number a out after answers made told = (event_lines new number a, made, Happens.happens a answers told)
event_happens (Err e) old new event number a out after answers made told = tt
