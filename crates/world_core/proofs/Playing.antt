-- What lists of events leave.
use Rattle.std.proofs.Common.{◌≡◌, ◌≢◌, ℕ, ◌⊎◌, inl, inr, Bool, true, false, not, ◌==◌, List, [], ◌∷◌, ◌++◌, length, Some, None, refl, sym, ◌∙◌, ap, subst, map, take, get_or, ◌+◌, ◌<◌}
use Rattle.std.proofs.lemmas.List.{append-nil, take_more}
use Rattle.decl_core.specs.declared.object.Object.{Object}
use Rattle.apply_core.specs.declared.reply.Failure.TheVariants as failures
use Rattle.apply_core.specs.declared.reply.Reply.{Reply}
use Rattle.apply_core.specs.declared.reply.Reply.TheVariants as replies
use Rattle.apply_core.specs.declared.need.Need.TheVariants as needs
use Rattle.page_core.specs.CallPins.{Call}
use Rattle.run_core.specs.Phases.{IsSettled, step_answer}
use Rattle.run_core.specs.Steps.{Place, at_read, at_page, at_create, at_append, at_seal, at_end, Starts, with_part, with_none, need_at, ending_at}
use Rattle.page_core.specs.Lists.{Every}
use Rattle.page_core.specs.ObjectCalls.{Noted, AcceptedCall, RunningCall}
use Rattle.board_core.specs.Board.{Board, joined, dismissed, released, marked, ended, entry_of}
use Rattle.board_core.proofs.Resumed.{resumed_history}
use Rattle.page_core.proofs.Lists.{Every-at, Every-snoc, Every-map, Every-filter, Every-set}
use Rattle.world_core.specs.declared.event.WorldAnswer.TheVariants.{Stepped}
use Rattle.world_core.specs.declared.event.EventAnswer.{EventAnswer}
use Rattle.world_core.specs.declared.event.Event.{Event}
use Rattle.world_core.specs.Events.{WorldEvent, step, event_of}
use Rattle.world_core.specs.Scene.{Scene, Standing, Goes, IsNew, AreBegun, call_running}
use Rattle.world_core.specs.Answers.{Answers, Moves, called, not_called, called_key, not_called_key, stepped, no_step, step_not_running, finished, not_done, finish_not_running, cancelled, not_cancelled, left, no_session, resumed, not_resumed, shown, not_shown}
use Rattle.world_core.specs.Plays.{Plays, if_ended, finishes, IsFailedStep, HasFailedStep}
use Rattle.world_core.proofs.Places.{map_snoc}

-- one more event after others
pub plays_more : (events : List WorldEvent) (answers : List EventAnswer) (old mid new : Scene) (e : WorldEvent) (a : EventAnswer)
    → Plays old events answers mid → Answers mid e a new → Plays old (events ++ e ∷ []) (answers ++ a ∷ []) new
plays_more [] [] old mid new e a plays answer = (new, subst (λ w. Answers w e a new) plays answer, refl)
plays_more [] (b ∷ answers) old mid new e a plays answer = absurd plays
plays_more (d ∷ events) [] old mid new e a plays answer = absurd plays
plays_more (d ∷ events) (b ∷ answers) old mid new e a plays answer = (plays.0, plays.1, plays_more events answers plays.0 mid new e a plays.2 answer)

-- admission leaves the history as it was
goes_history : {old new : Scene} {between : Board} {kept : List Standing} {starts : ℕ} → Goes old between kept starts new → new.board.history ≡ between.history
goes_history g = ap (λ (b : Board). b.history) g.board ∙ g.settles.started.history

joined_history : (b : Board) (c : AcceptedCall) → (joined b c).history ≡ b.history
unfolding joined
joined_history b c = refl

dismissed_history : (b : Board) (n : ℕ) → (dismissed b n).history ≡ b.history
unfolding dismissed
dismissed_history b n = refl

left_history : (b : Board) (n : ℕ) → (marked (released b n) n).history ≡ b.history
unfolding marked released
left_history b n = refl

ended_history : (b : Board) (e : Noted) → (ended b e).history ≡ b.history ++ e ∷ []
unfolding ended
ended_history b e = refl

-- an entry, as whoever plays is told of it
abbrev told_of : Noted → ℕ × Reply
told_of e = (e.number, e.reply)

told_snoc : (entries : List Noted) (e : Noted) (number : ℕ) (reply : Reply) (rest : List (ℕ × Reply)) → e.number ≡ number → e.reply ≡ reply
    → map told_of (entries ++ e ∷ []) ++ rest ≡ map told_of entries ++ (number, reply) ∷ rest
told_snoc [] e number reply rest n r = ap (λ m. (m, e.reply) ∷ rest) n ∙ ap (λ x. (number, x) ∷ rest) r
told_snoc (d ∷ entries) e number reply rest n r = ap (λ xs. told_of d ∷ xs) (told_snoc entries e number reply rest n r)

told_same : (old new : Scene) (rest : List (ℕ × Reply)) → new.board.history ≡ old.board.history → map told_of new.board.history ++ rest ≡ map told_of old.board.history ++ rest
told_same old new rest h = ap (λ es. map told_of es ++ rest) h

-- the number of a running call is that of its run
number_of : (r : RunningCall) (run : Standing) (number : ℕ) → run.call ≡ call_running r → run.call.number ≡ number → r.number ≡ number
number_of r run number is there = sym (ap (λ (c : Call). c.number) is) ∙ there

-- an event is told as what it adds to the history
step_told : (old new : Scene) (e : WorldEvent) (a : EventAnswer) (rest : List (ℕ × Reply)) → Answers old e a new → map told_of new.board.history ++ rest ≡ map told_of old.board.history ++ if_ended e a.answer rest
step_told old new e a rest (called accepted taken goes) = told_same old new rest (goes_history goes ∙ joined_history old.board accepted)
step_told old new e a rest (not_called fault refused) = refl
step_told old new e a rest (called_key accepted next taken goes) = told_same old new rest (goes_history goes ∙ joined_history old.board accepted)
step_told old new e a rest (Answers.kept made here is) = refl
step_told old new e a rest (not_called_key fault refused) = refl
step_told old new e a rest (stepped k run after files there going moves) = refl
step_told old new e a rest (no_step k run there done) = refl
step_told old new e a rest (step_not_running none) = refl
step_told old new e a rest (finished {number = number} k r run reply news among there is ends leaves goes) =
    let noted = entry_of r reply news in
    ap (λ es. map told_of es ++ rest) (goes_history goes ∙ ended_history old.board noted) ∙ told_snoc old.board.history noted number reply rest (number_of r run number is there.number) refl
step_told old new e a rest (not_done k run there going) = refl
step_told old new e a rest (finish_not_running none) = refl
step_told old new e a rest (cancelled {number = number} waits goes) = told_same old new rest (goes_history goes ∙ dismissed_history old.board number)
step_told old new e a rest (not_cancelled answer other so) = refl
step_told old new e a rest (left {session = session} above below goes) = told_same old new rest (goes_history goes ∙ left_history old.board session)
step_told old new e a rest (no_session none) = refl
step_told old new e a rest (resumed {session = session} above below) = ap (λ es. map told_of es ++ rest) (resumed_history old.board session).0
step_told old new e a rest (not_resumed none) = refl
step_told old new e a rest (shown values are) = refl
step_told old new e a rest not_shown = refl

plays_told : (events : List WorldEvent) (answers : List EventAnswer) (old new : Scene) → Plays old events answers new → map told_of old.board.history ++ finishes events answers ≡ map told_of new.board.history
plays_told [] [] old new plays = append-nil (map told_of old.board.history) ∙ ap (λ (w : Scene). map told_of w.board.history) (sym plays)
plays_told [] (a ∷ answers) old new plays = absurd plays
plays_told (e ∷ events) [] old new plays = absurd plays
plays_told (e ∷ events) (a ∷ answers) old new plays = sym (step_told old plays.0 e a (finishes events answers) plays.1) ∙ plays_told events answers plays.0 new plays.2

pub all_told : (o : Object) (old new : Scene) (events : List WorldEvent) (answers : List EventAnswer) → IsNew o old → Plays old events answers new → map told_of new.board.history ≡ finishes events answers
all_told o old new events answers begins plays = sym (plays_told events answers old new plays) ∙ ap (λ (b : Board). map told_of b.history ++ finishes events answers) begins.board

-- A reply of a call: a fault of the device is owed to this, and no part was found damaged.
record IsFair (Owed : ℕ → Type 0) (number : ℕ) (reply : Reply) : Type 0 where
  device : reply ≡ replies.Failed failures.Device → Owed number
  damage : reply ≢ replies.Failed failures.Damaged

-- if a run has ended, its reply is fair
abbrev EndsFair : (ℕ → Type 0) → Standing → Type 0
EndsFair Owed run = (reply : Reply) → ending_at run.place ≡ Some reply → IsFair Owed run.call.number reply

abbrev EntryFair : (ℕ → Type 0) → Noted → Type 0
EntryFair Owed e = IsFair Owed e.number e.reply

-- each entry of the history is fair, and so is the ending of each run
record AreFair (Owed : ℕ → Type 0) (w : Scene) : Type 0 where
  entries : Every (EntryFair Owed) w.board.history
  runs : Every (EndsFair Owed) w.runs

fair_owed : (P Q : ℕ → Type 0) → ((n : ℕ) → P n → Q n) → (number : ℕ) (reply : Reply) → IsFair P number reply → IsFair Q number reply
fair_owed P Q more number reply fair = record { device = λ is. more number (fair.device is); damage = fair.damage }

all_fair_owed : (P Q : ℕ → Type 0) → ((n : ℕ) → P n → Q n) → (w : Scene) → AreFair P w → AreFair Q w
all_fair_owed P Q more w fair = record {
  entries = Every-map (EntryFair P) (EntryFair Q) (λ e h. fair_owed P Q more e.number e.reply h) w.board.history fair.entries;
  runs = Every-map (EndsFair P) (EndsFair Q) (λ s h reply is. fair_owed P Q more s.call.number reply (h reply is)) w.runs fair.runs;
}

settled_fair : (Owed : ℕ → Type 0) (number : ℕ) (reply : Reply) → IsSettled (Some reply) → IsFair Owed number reply
settled_fair Owed number (replies.Done value) settled = record { device = λ is. absurd cc; damage = λ is. absurd cc }
settled_fair Owed number (replies.Refused word) settled = record { device = λ is. absurd cc; damage = λ is. absurd cc }
settled_fair Owed number (replies.Failed failure) settled = absurd settled

starts_settled : (call : Call) (place : Place) → Starts call place → (reply : Reply) → ending_at place ≡ Some reply → IsSettled (Some reply)
starts_settled call place (with_part next) reply is = absurd cc
starts_settled call place (with_none reads settled) reply is = subst IsSettled is settled

begun_fair : (Owed : ℕ → Type 0) (calls : List RunningCall) (runs : List Standing) → AreBegun calls runs → Every (EndsFair Owed) runs
begun_fair Owed [] [] begun = tt
begun_fair Owed (r ∷ rs) [] begun = absurd begun
begun_fair Owed [] (s ∷ ss) begun = absurd begun
begun_fair Owed (r ∷ rs) (s ∷ ss) begun = (λ reply is. settled_fair Owed s.call.number reply (starts_settled s.call s.place begun.1 reply is), begun_fair Owed rs ss begun.2)

Every-append : {X : Type 0} (P : X → Type 0) (xs ys : List X) → Every P xs → Every P ys → Every P (xs ++ ys)
Every-append P [] ys all others = others
Every-append P (x ∷ xs) ys all others = (all.0, Every-append P xs ys all.1 others)

goes_fair : {old new : Scene} {between : Board} {kept : List Standing} {starts : ℕ} (Owed : ℕ → Type 0) → Goes old between kept starts new → Every (EntryFair Owed) between.history → Every (EndsFair Owed) kept → AreFair Owed new
goes_fair {kept = kept} Owed goes entries runs = record {
  entries = subst (Every (EntryFair Owed)) (sym (goes_history goes)) entries;
  runs = subst (Every (EndsFair Owed)) (sym goes.runs) (Every-append (EndsFair Owed) kept goes.begun runs (begun_fair Owed _ goes.begun goes.begin));
}

-- what has a step has not ended
not_ended : (place : Place) → need_at place ≢ needs.Done → ending_at place ≡ None
not_ended (at_read part page) going = refl
not_ended (at_page known part page) going = refl
not_ended (at_create writes sealed) going = refl
not_ended (at_append writes sealed) going = refl
not_ended (at_seal writes sealed) going = refl
not_ended (at_end reply sealed) going = absurd (going refl)

-- a step leaves a fair ending: where it failed for the device, it was made to
moved_fair : (Owed : ℕ → Type 0) (run : Standing) (after : Place) (works : Bool) (number : ℕ) → run.call.number ≡ number → need_at run.place ≢ needs.Done → Moves run works after
    → ((n : ℕ) → IsFailedStep n (step number works) (record { answer = Stepped (need_at run.place) (step_answer (ending_at run.place) (ending_at after)); starts = 0 }) → Owed n)
    → EndsFair Owed (record run { place = after })
moved_fair Owed run after true number is going moves owed reply ends = record {
  device = λ h. absurd (moves.works refl (ends ∙ ap Some h));
  damage = λ h. moves.sound (ends ∙ ap Some h);
}
moved_fair Owed run after false number is going moves owed reply ends = record {
  device = λ h. subst Owed (sym is) (owed number (refl, (need_at run.place, ap (λ x. Stepped (need_at run.place) (step_answer x (ending_at after))) (not_ended run.place going) ∙ ap (λ x. Stepped (need_at run.place) (step_answer None x)) (ends ∙ ap Some h))));
  damage = λ h. moves.sound (ends ∙ ap Some h);
}

-- an event keeps all fair
step_fair : (P Q : ℕ → Type 0) (old new : Scene) (e : WorldEvent) (a : EventAnswer) → ((n : ℕ) → P n → Q n) → ((n : ℕ) → IsFailedStep n e a → Q n) → Answers old e a new → AreFair P old → AreFair Q new
step_fair P Q old new e a more now (called accepted taken goes) fair =
    let before = all_fair_owed P Q more old fair in
    goes_fair Q goes (subst (Every (EntryFair Q)) (sym (joined_history old.board accepted)) before.entries) before.runs
step_fair P Q old new e a more now (not_called fault refused) fair = all_fair_owed P Q more old fair
step_fair P Q old new e a more now (called_key accepted next taken goes) fair =
    let before = all_fair_owed P Q more old fair in
    goes_fair Q goes (subst (Every (EntryFair Q)) (sym (joined_history old.board accepted)) before.entries) before.runs
step_fair P Q old new e a more now (Answers.kept made here is) fair = all_fair_owed P Q more old fair
step_fair P Q old new e a more now (not_called_key fault refused) fair = all_fair_owed P Q more old fair
step_fair P Q old new e a more now (stepped {number = number} {works = works} k run after files there going moves) fair =
    let before = all_fair_owed P Q more old fair in
    record {
      entries = before.entries;
      runs = Every-set (EndsFair Q) old.runs k (record run { place = after }) before.runs (moved_fair Q run after works number there.number going moves now);
    }
step_fair P Q old new e a more now (no_step k run there done) fair = all_fair_owed P Q more old fair
step_fair P Q old new e a more now (step_not_running none) fair = all_fair_owed P Q more old fair
step_fair P Q old new e a more now (finished {number = number} k r run reply news among there is ends leaves goes) fair =
    let before = all_fair_owed P Q more old fair in
    let noted = entry_of r reply news in
    let ended_fair = Every-at (EndsFair Q) old.runs k run before.runs there.there reply ends in
    let one : EntryFair Q noted = subst (λ n. IsFair Q n reply) (ap (λ (c : Call). c.number) is) ended_fair in
    goes_fair Q goes (subst (Every (EntryFair Q)) (sym (ended_history old.board noted)) (Every-snoc (EntryFair Q) old.board.history noted before.entries one))
    (Every-filter (EndsFair Q) (λ s. not (s.call.number == number)) old.runs before.runs)
step_fair P Q old new e a more now (not_done k run there going) fair = all_fair_owed P Q more old fair
step_fair P Q old new e a more now (finish_not_running none) fair = all_fair_owed P Q more old fair
step_fair P Q old new e a more now (cancelled {number = number} waits goes) fair =
    let before = all_fair_owed P Q more old fair in
    goes_fair Q goes (subst (Every (EntryFair Q)) (sym (dismissed_history old.board number)) before.entries) before.runs
step_fair P Q old new e a more now (not_cancelled answer other so) fair = all_fair_owed P Q more old fair
step_fair P Q old new e a more now (left {session = session} above below goes) fair =
    let before = all_fair_owed P Q more old fair in
    goes_fair Q goes (subst (Every (EntryFair Q)) (sym (left_history old.board session)) before.entries) before.runs
step_fair P Q old new e a more now (no_session none) fair = all_fair_owed P Q more old fair
step_fair P Q old new e a more now (resumed {session = session} above below) fair =
    let before = all_fair_owed P Q more old fair in
    record { entries = subst (Every (EntryFair Q)) (sym (resumed_history old.board session).0) before.entries; runs = before.runs }
step_fair P Q old new e a more now (not_resumed none) fair = all_fair_owed P Q more old fair
step_fair P Q old new e a more now (shown values are) fair = all_fair_owed P Q more old fair
step_fair P Q old new e a more now not_shown fair = all_fair_owed P Q more old fair

-- and so do events one after another
plays_fair : (events : List WorldEvent) (answers : List EventAnswer) (Owed : ℕ → Type 0) (old new : Scene) → Plays old events answers new → AreFair Owed old → AreFair (λ n. Owed n ⊎ HasFailedStep n events answers) new
plays_fair [] [] Owed old new plays fair = all_fair_owed Owed (λ n. Owed n ⊎ ⊥) (λ n h. inl h) new (subst (AreFair Owed) (sym plays) fair)
plays_fair [] (a ∷ answers) Owed old new plays fair = absurd plays
plays_fair (e ∷ events) [] Owed old new plays fair = absurd plays
plays_fair (e ∷ events) (a ∷ answers) Owed old new plays fair =
    let Now : ℕ → Type 0 = λ n. Owed n ⊎ IsFailedStep n e a in
    let Later : ℕ → Type 0 = λ n. HasFailedStep n events answers in
    let first = step_fair Owed Now old plays.0 e a (λ n h. inl h) (λ n h. inr h) plays.1 fair in
    all_fair_owed (λ n. Now n ⊎ Later n) (λ n. Owed n ⊎ (IsFailedStep n e a ⊎ Later n)) (λ n h. elim h [ inl early ↦ elim early [ inl owed ↦ inl owed | inr here ↦ inr (inl here) ] | inr later ↦ inr (inr later) ]) new
    (plays_fair events answers Now plays.0 new plays.2 first)

new_fair : (o : Object) (w : Scene) → IsNew o w → AreFair (λ n. ⊥) w
new_fair o w begins = record {
  entries = subst (λ (b : Board). Every (EntryFair (λ n. ⊥)) b.history) (sym begins.board) tt;
  runs = subst (Every (EndsFair (λ n. ⊥))) (sym begins.runs) tt;
}

pub fails_only : (o : Object) (old new : Scene) (events : List WorldEvent) (answers : List EventAnswer) → IsNew o old → Plays old events answers new
    → Every (λ (e : Noted). e.reply ≡ replies.Failed failures.Device → HasFailedStep e.number events answers) new.board.history × Every (λ (e : Noted). e.reply ≢ replies.Failed failures.Damaged) new.board.history
fails_only o old new events answers begins plays =
    let fair = plays_fair events answers (λ n. ⊥) old new plays (new_fair o old begins) in
    let owed : ℕ → Type 0 = λ n. ⊥ ⊎ HasFailedStep n events answers in
    (Every-map (EntryFair owed) _ (λ e h is. elim (h.device is) [ inl none ↦ absurd none | inr there ↦ there ]) new.board.history fair.entries, Every-map (EntryFair owed) _ (λ e h. h.damage) new.board.history fair.entries)

-- one more event of a list
pub plays_taken : (all : List Event) (k : ℕ) (event : Event) (answers : List EventAnswer) (old mid new : Scene) (a : EventAnswer) → k < length all
    → Plays old (map event_of (take k all)) answers mid → Answers mid (event_of (get_or all k event)) a new → Plays old (map event_of (take (k + 1) all)) (answers ++ a ∷ []) new
plays_taken all k event answers old mid new a within plays answer =
    let longer : map event_of (take (k + 1) all) ≡ map event_of (take k all) ++ event_of (get_or all k event) ∷ [] = ap (map event_of) (take_more all k event within) ∙ map_snoc event_of (take k all) (get_or all k event) in
    subst (λ es. Plays old es (answers ++ a ∷ []) new) (sym longer) (plays_more (map event_of (take k all)) answers old mid new (event_of (get_or all k event)) a plays answer)
