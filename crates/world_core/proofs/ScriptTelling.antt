-- The lines that tell what happened.
use Rattle.std.proofs.Common.{◌≡◌, ℕ, ◌+◌, ◌-◌, ◌<◌, ◌≤◌, List, ◌++◌, length, sym, ◌∙◌, ap, drop, get_or, slice_get, Some, append_assoc, subst}
use Rattle.std.specs.Prelude.{Result, Ok, Err, OnOk}
use Rattle.std.specs.List.{flat_map}
use Rattle.std.proofs.lemmas.List.{at_drop_more, at_drop_all, append-nil}
use Rattle.std.proofs.lemmas.Option.{get_or_from_slice_get, slice_get_within}
use Rattle.value_core.specs.Contents.{Contents}
use Rattle.decl_core.specs.ObjectMap.{object_of}
use Rattle.word_core.specs.Text.{trace_text}
use Rattle.board_core.specs.declared.event.TraceEvent.{TraceEvent}
use Rattle.board_core.specs.Board.{Board}
use Rattle.board_core.specs.Sound.{event_number}
use Rattle.desk_core.specs.Told.{lines_told}
use Rattle.world_core.specs.Scene.{Scene}
use Rattle.world_core.specs.Events.{WorldEvent}
use Rattle.word_core.specs.Said.{Said, a_trace}
use Rattle.word_core.specs.Answers.{started_line}
use Rattle.world_core.specs.Does.{Does, Happens, IsEvent, answer_lines, event_lines, one_event, traced}
use Rattle.decl_core.specs.declared.object.Object.{Object}
use Rattle.world_core.specs.declared.event.EventAnswer.{EventAnswer}

-- `started N` for each of these events
abbrev pub told_starts : List TraceEvent → List ℕ
told_starts events = flat_map (λ e. started_line (event_number e)) events

-- one line more
pub one_start : (events : List TraceEvent) (k : ℕ) (d : TraceEvent) (before out : List ℕ) → k < length events → out ≡ before ++ started_line (event_number (get_or events k d))
    → out ++ told_starts (drop (k + 1) events) ≡ before ++ told_starts (drop k events)
one_start events k d before out within made =
    ap (λ xs. xs ++ told_starts (drop (k + 1) events)) made
    ∙ append_assoc before (started_line (event_number (get_or events k d))) (told_starts (drop (k + 1) events))
    ∙ ap (λ xs. before ++ xs) (sym (at_drop_more told_starts events k d within))

-- the same of the event that was found there
pub next_start : (events : List TraceEvent) (k : ℕ) (e : TraceEvent) (number : ℕ) (before out : List ℕ) → slice_get events k ≡ Some e → number ≡ event_number e → out ≡ before ++ started_line number
    → out ++ told_starts (drop (k + 1) events) ≡ before ++ told_starts (drop k events)
next_start events k e number before out there is made =
    one_start events k e before out (slice_get_within events k e there)
    (made ∙ ap (λ n. before ++ started_line n) (is ∙ sym (ap event_number (get_or_from_slice_get events k e e there))))

-- no line more
pub no_start : (events : List TraceEvent) (k : ℕ) (before out : List ℕ) → length events ≤ k → out ++ told_starts (drop k events) ≡ before → out ≡ before
no_start events k before out behind made = sym (append-nil out) ∙ ap (λ xs. out ++ xs) (sym (at_drop_all told_starts events k behind)) ∙ made

pub trace_told : (w : Scene) (b : Board) (opening : List Contents) (text : List ℕ) → b ≡ w.board → opening ≡ w.opening → text ≡ trace_text (object_of b.object) opening (lines_told b) → Does a_trace w text w
trace_told w b opening text same shown is =
    subst (λ t. Does a_trace w t w)
    (sym (is ∙ ap (λ (x : Board). trace_text (object_of x.object) opening (lines_told x)) same ∙ ap (λ o. trace_text (object_of w.board.object) o (lines_told w.board)) shown))
    traced

-- lines that were told
pub told_lines : {T E : Type 0} (r : Result T E) (new old text : List ℕ) (D : List ℕ → Type 0) → OnOk r (new ≡ old ++ text) → D text → OnOk r ((x : List ℕ) × (new ≡ old ++ x) × D x)
told_lines (Ok u) new old text D made does = (text, made, does)
told_lines (Err e) new old text D made does = tt

-- an event that a line says
pub told_event : {T E : Type 0} (r : Result T E) (new old : List ℕ) (said : Said) (event : WorldEvent) (number : ℕ) (w after : Scene) → IsEvent said event number
    → OnOk r ((x : List ℕ) × (new ≡ old ++ x) × Happens event number w x after) → OnOk r ((x : List ℕ) × (new ≡ old ++ x) × Does said w x after)
told_event (Ok u) new old said event number w after is (text, made, done) = (text, made, one_event is done)
told_event (Err e) new old said event number w after is told = tt

-- an answer to an event, and the calls that it started, are told
pub event_told : (new : Scene) (number : ℕ) (a : EventAnswer) (o : Object) (b : Board) (k : ℕ) (out mid last : List ℕ)
    → o ≡ new.board.object → b ≡ new.board → k ≡ length b.trace - a.starts → mid ≡ out ++ answer_lines o number a.answer → last ≡ mid ++ told_starts (drop k b.trace)
    → last ≡ out ++ event_lines new number a
event_told new number a o b k out mid last same_object same_board is first second =
    second
    ∙ ap (λ m. m ++ told_starts (drop k b.trace)) first
    ∙ append_assoc out (answer_lines o number a.answer) (told_starts (drop k b.trace))
    ∙ ap (λ (x : Object). out ++ (answer_lines x number a.answer ++ told_starts (drop k b.trace))) same_object
    ∙ ap (λ n. out ++ (answer_lines new.board.object number a.answer ++ told_starts (drop n b.trace))) is
    ∙ ap (λ (x : Board). out ++ (answer_lines new.board.object number a.answer ++ told_starts (drop (length x.trace - a.starts) x.trace))) same_board
