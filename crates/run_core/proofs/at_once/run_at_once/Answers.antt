use Rattle.std.proofs.Common.{[], Err, ap, subst, arith, sym}
use Rattle.page_core.specs.CallPins.{Call}
use Rattle.run_core.specs.Tasks.{task_call}
use Rattle.page_core.specs.Truths.{PinsAreWhole}
use Rattle.run_core.proofs.Telling.{told_of, renewed_of}
use Rattle.run_core.proofs.WritingAll.{failure_is_true}
use Rattle.apply_core.specs.declared.reply.Failure.TheVariants as failures
use Rattle.page_core.specs.Tickets.{ticket_call}
use Rattle.run_core.proofs.MadeAtOnce.{at_first_alone, at_first_and_on, pins_still, failure_in_reply}
use Rattle.run_core.proofs.Serving.{no_files}
use Rattle.run_core.specs.Steps.{PinsServed}
use Rattle.run_core.proofs.at_once.run_at_once.Goals as goal

pub run_read-requires : goal.run_read-requires
run_read-requires g c = record { read = λ p reads. c.in-Ok.ensures.places p reads (omega arith) }

pub returns-clause-told : goal.returns-clause-told
returns-clause-told g c = λ a agrees still.
    let call = task_call c.new-task.result in
    let seen = c.new-seen.result in
    let there = c.run_read.ensures.kept a agrees in
    c.run_read.ensures.told a agrees (λ whole. c.in-Ok.ensures.found a there whole (c.none_is_seen.ensures a call seen.known seen.read.items c.new-seen.ensures.known)) still

pub returns-clause-renewed : goal.returns-clause-renewed
returns-clause-renewed g c = λ a agrees still.
    let call = task_call c.new-task.result in
    let seen = c.new-seen.result in
    let there = c.run_read.ensures.kept a agrees in
    let whole : PinsAreWhole a call = subst (λ (other : Call). PinsAreWhole a other) c.run_read.ensures.call still in
    c.run_read.ensures.renewed a agrees whole (c.in-Ok.ensures.found a there whole (c.none_is_seen.ensures a call seen.known seen.read.items c.new-seen.ensures.known))

pub returns-in-Err-clause-told : goal.returns-in-Err-clause-told
returns-in-Err-clause-told g c = λ a agrees still.
    let call = task_call c.new-task.result in
    let whole : PinsAreWhole a call = subst (λ (other : Call). PinsAreWhole a other) c.over.ensures.call still in
    told_of a call _ _ _ [] _ c.over.ensures.call c.over.ensures.reply c.over.ensures.news (failure_is_true a call c.in-Err.failure [] (λ is. c.in-Err.ensures.damaged (ap Err is) a agrees whole))

pub returns-in-Err-clause-renewed : goal.returns-in-Err-clause-renewed
returns-in-Err-clause-renewed g c = λ a agrees still. renewed_of a (task_call c.new-task.result) _ _ _ [] _ [] _ [] _ c.over.ensures.call c.over.ensures.reply c.over.ensures.sealed c.over.ensures.news c.over.ensures.gone tt

pub returns-clause-makes : goal.returns-clause-makes
returns-clause-makes g c = at_first_and_on g.H.Hand.makes (task_call c.new-task.result) (ticket_call c.args.ticket) c.read_from.new.seen.known _ _ c.args.hand.now c.read_from.new.hand c.run_read.new.hand c.new-task.ensures c.in-Ok.ensures.makes c.run_read.ensures.makes

pub returns-in-Err-clause-makes : goal.returns-in-Err-clause-makes
returns-in-Err-clause-makes g c = at_first_alone g.H.Hand.makes (task_call c.new-task.result) (ticket_call c.args.ticket) _ _ c.args.hand.now c.read_from.new.hand c.new-task.ensures c.over.ensures.sealed c.in-Err.ensures.makes

pub returns-in-Err-clause-written : goal.returns-in-Err-clause-written
returns-in-Err-clause-written g c = no_files (g.H.Hand.serves c.read_from.new.hand) _ c.over.ensures.sealed

pub returns-clause-in_order : goal.returns-clause-in_order
returns-clause-in_order g c = λ always served.
    let pins : PinsServed (g.H.Hand.serves c.args.hand.now) (task_call c.new-task.result) = subst (λ (call : Call). PinsServed (g.H.Hand.serves c.args.hand.now) call) (sym c.new-task.ensures) served in
    c.run_read.ensures.in_order (c.in-Ok.ensures.works always) (pins_still (g.H.Hand.serves c.args.hand.now) (g.H.Hand.serves c.read_from.new.hand) (task_call c.new-task.result) c.in-Ok.ensures.serves pins)

pub returns-in-Err-clause-in_order : goal.returns-in-Err-clause-in_order
returns-in-Err-clause-in_order g c = λ always served is.
    let pins : PinsServed (g.H.Hand.serves c.args.hand.now) (task_call c.new-task.result) = subst (λ (call : Call). PinsServed (g.H.Hand.serves c.args.hand.now) call) (sym c.new-task.ensures) served in
    c.in-Err.ensures.in_order always pins (ap Err (failure_in_reply _ c.in-Err.failure failures.Device c.over.ensures.reply is))
