-- What is found in a list, and what is known of it there.
use Rattle.std.proofs.Common.{◌≡◌, ◌∙◌, ap, sym, subst, refl, suc, ◌+◌, arith, [], ◌∷◌, ◌++◌, length, Some}
use Rattle.std.specs.Arc.{arc_value}
use Rattle.std.proofs.lemmas.Option.{same_Some}
use Rattle.decl_core.specs.ObjectMap.{operation_of}
use Rattle.page_core.specs.declared.ticket.Ticket.{Ticket}
use Rattle.page_core.specs.CallPins.{Call}
use Rattle.page_core.specs.ObjectCalls.{AcceptedCall}
use Rattle.board_core.specs.Board.{Board, call_at, joined}
use Rattle.board_core.specs.Started.{Settles}
use Rattle.board_core.specs.Sound.{IsSound, IsRunningIn}
use Rattle.page_core.proofs.Lists.{Every-at}
use Rattle.board_core.proofs.Traces.{call_at-new}
use Rattle.board_core.specs.declared.answer.Collected.TheVariants as collected
use Rattle.board_core.specs.Answers.{Asked, IsTaken, Collects}
use Rattle.office_core.specs.declared.seat.Submitted.{Submitted}
use Rattle.office_core.specs.Submissions.{IsOf, IsTicketOf}

-- a ticket that is collected for a submission's number is of the submission, where the call of that number is
pub ticket_is : (b : Board) (s : Submitted) (t : Ticket) (after : Board) → IsSound b → IsOf b s → Collects b s.number (collected.Ticket t) after → IsTicketOf s t
ticket_is b s t after sound of (k, r, left, is, _) =
    let runs : IsRunningIn b r = Every-at (IsRunningIn b) b.running k r sound.counted.runs left.there in
    let same : r.call ≡ of.0 = same_Some r.call of.0 (sym runs.call ∙ ap (call_at b.calls) left.number ∙ of.1) in
    record {
      number = ap (λ (c : Call). c.number) is;
      operation = ap (λ (c : Call). operation_of c.operation) is ∙ ap (λ (c : AcceptedCall). operation_of c.operation) same ∙ of.2.operation;
      arguments = ap (λ (c : Call). c.arguments) is ∙ ap (λ (c : AcceptedCall). c.arguments) same ∙ of.2.arguments;
    }

-- a submission has the very call that joined
pub joined_is : (b after : Board) (a : Asked) (s : Submitted) → IsTaken b a (arc_value s.call) → s.number ≡ length b.calls + 1 → Settles (joined b (arc_value s.call)) after → IsOf after s
unfolding joined
joined_is b after a s taken number settles =
    let call : AcceptedCall = arc_value s.call in
    let calls : after.calls ≡ b.calls ++ call ∷ [] = settles.started.calls in
    let next : suc (length b.calls) ≡ s.number = omega (arith, number) in (
      call,
      ap (λ cs. call_at cs s.number) calls ∙ subst (λ n. call_at (b.calls ++ call ∷ []) n ≡ Some call) next (call_at-new b.calls call),
      record { operation = refl; arguments = refl },
    )
