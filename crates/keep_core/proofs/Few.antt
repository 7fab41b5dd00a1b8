-- A history has no more entries than an object has calls.
use Rattle.std.proofs.Common.{◌≡◌, ◌∙◌, ap, refl, arith, ℕ, ◌+◌, ◌≤◌, List, [], ◌∷◌, length}
use Rattle.std.proofs.lemmas.List.{length-map}
use Rattle.path_tree.specs.Trace.{Event, Start as Began, End as Ended}
use Rattle.path_count.specs.Stands.{started_calls}
use Rattle.path_count.proofs.Running.{few_events}
use Rattle.board_core.specs.declared.event.TraceEvent.{TraceEvent}
use Rattle.board_core.specs.declared.event.TraceEvent.TheVariants.{Start, End}
use Rattle.page_core.specs.ObjectCalls.{AcceptedCall, Noted}
use Rattle.board_core.specs.Board.{Board, path_event, past_of}
use Rattle.board_core.specs.Sound.{IsSound, ends_of}
use Rattle.std.specs.Prelude.{fold}

-- so many calls have ended
abbrev ended_calls : List Event → ℕ
ended_calls [] = 0
ended_calls (Began call ∷ past) = ended_calls past
ended_calls (Ended call ∷ past) = 1 + ended_calls past

each_event : (past : List Event) → length past ≡ started_calls past + ended_calls past
each_event [] = refl
each_event (Began call ∷ past) = omega (arith, each_event past)
each_event (Ended call ∷ past) = omega (arith, each_event past)

-- the ends of what happened, after what was before
ends_counted : (calls : List AcceptedCall) (trace : List TraceEvent) (past : List Event) → ended_calls (fold (λ (so_far : List Event) (event : TraceEvent). path_event calls event ∷ so_far) past trace) ≡ length (ends_of trace) + ended_calls past
ends_counted calls [] past = omega arith
ends_counted calls (Start n ∷ trace) past = ends_counted calls trace (path_event calls (Start n) ∷ past)
ends_counted calls (End n reply ∷ trace) past = omega (arith, ends_counted calls trace (path_event calls (End n reply) ∷ past))

pub few_entries : (b : Board) → IsSound b → length b.history ≤ 65536
few_entries b sound =
    let ends : length (ends_of b.trace) ≡ length b.history = ap length sound.told.ends ∙ length-map b.history (λ (e : Noted). (e.number, e.reply)) in
    omega (arith, ends, ends_counted b.calls b.trace [], each_event (past_of b), few_events (past_of b) sound.counted.trace, sound.counted.counted, sound.counted.few)
