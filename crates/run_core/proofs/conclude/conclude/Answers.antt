use Rattle.std.proofs.Common.{List, [], refl, sym, subst, ◌∙◌}
use Rattle.std.specs.Arc.{arc_value}
use Rattle.decl_core.specs.Bodies.{body_of}
use Rattle.run_core.specs.declared.judge.Change.{Change}
use Rattle.page_core.specs.Given.{IsDone}
use Rattle.run_core.specs.Written.{WritesInOrder, parts_changed}
use Rattle.run_core.specs.Wholes.{AreChangesOf}
use Rattle.run_core.specs.Tasks.{task_call}
use Rattle.page_core.specs.Truths.{PinHolds}
use Rattle.run_core.specs.Steps.{wants}
use Rattle.run_core.proofs.Inside.{none_has}
use Rattle.run_core.proofs.Stepping.{ended_there, ended_reads, paging_reads}
use Rattle.run_core.proofs.conclude.conclude.Goals as goal

pub begin-requires-clause-rising : goal.begin-requires-clause-rising
begin-requires-clause-rising c = subst (λ (cs : List Change). WritesInOrder (body_of (arc_value c.args.task.now.operation)).statements 0 (parts_changed cs)) (sym c.deref.ensures.value) c.in-Done.ensures.writes.0

pub returns-in-Done-clause-found : goal.returns-in-Done-clause-found
returns-in-Done-clause-found c = λ a whole seen.
    let call = task_call c.args.task.now in
    c.begin.ensures.found a whole seen
    (subst (λ (cs : List Change). IsDone (PinHolds a call.pins) call.operation call.arguments c.in-Done.reply (AreChangesOf c.args.seen.known call.operation c.args.seen.read.items (PinHolds a call.pins) cs)) (sym c.deref.ensures.value) (c.in-Done.ensures.told a whole seen))

pub returns-in-Done-clause-settled : goal.returns-in-Done-clause-settled
returns-in-Done-clause-settled c = λ none. c.begin.ensures.settled (c.deref.ensures.value ∙ c.in-Done.ensures.settled none)

pub returns-in-Needs-clause-found : goal.returns-in-Needs-clause-found
returns-in-Needs-clause-found c = λ a whole seen. record { seen = seen; due = c.in-Needs.ensures.told a whole seen }

pub returns-in-Needs-clause-steps : goal.returns-in-Needs-clause-steps
returns-in-Needs-clause-steps c = wants (c.in-Needs.ensures.next c.in-Needs.part c.in-Needs.page refl)

pub returns-in-Needs-clause-reads : goal.returns-in-Needs-clause-reads
returns-in-Needs-clause-reads c = paging_reads (arc_value c.args.task.now.operation) _ c.requires.read

pub returns-in-Refused-clause-found : goal.returns-in-Refused-clause-found
returns-in-Refused-clause-found c = λ a whole seen. c.ended.ensures.found a (task_call c.args.task.now) (λ news none. (c.in-Refused.ensures.told a whole seen, none)) tt

pub returns-in-Damaged-clause-found : goal.returns-in-Damaged-clause-found
returns-in-Damaged-clause-found c = λ a whole seen. c.ended-in-Damaged.ensures.found a (task_call c.args.task.now) (λ news none. c.in-Damaged.ensures.told a whole seen) tt

pub returns-in-Memory-clause-found : goal.returns-in-Memory-clause-found
returns-in-Memory-clause-found c = λ a whole seen. c.ended-in-Memory.ensures.found a (task_call c.args.task.now) (λ news none. tt) tt

pub returns-in-Refused-clause-steps : goal.returns-in-Refused-clause-steps
returns-in-Refused-clause-steps c = ended_there (task_call c.args.task.now) c.args.seen.known _ [] _ refl c.ended.ensures.place

pub returns-in-Damaged-clause-steps : goal.returns-in-Damaged-clause-steps
returns-in-Damaged-clause-steps c = ended_there (task_call c.args.task.now) c.args.seen.known _ [] _ refl c.ended-in-Damaged.ensures.place

pub returns-in-Memory-clause-steps : goal.returns-in-Memory-clause-steps
returns-in-Memory-clause-steps c = ended_there (task_call c.args.task.now) c.args.seen.known _ [] _ refl c.ended-in-Memory.ensures.place

pub returns-in-Refused-clause-reads : goal.returns-in-Refused-clause-reads
returns-in-Refused-clause-reads c = ended_reads (arc_value c.args.task.now.operation) _ _ [] c.ended.ensures.place

pub returns-in-Damaged-clause-reads : goal.returns-in-Damaged-clause-reads
returns-in-Damaged-clause-reads c = ended_reads (arc_value c.args.task.now.operation) _ _ [] c.ended-in-Damaged.ensures.place

pub returns-in-Memory-clause-reads : goal.returns-in-Memory-clause-reads
returns-in-Memory-clause-reads c = ended_reads (arc_value c.args.task.now.operation) _ _ [] c.ended-in-Memory.ensures.place

pub returns-in-Refused-clause-news : goal.returns-in-Refused-clause-news
returns-in-Refused-clause-news c = λ p has. absurd (none_has _ p c.ended.ensures.news has)

pub returns-in-Damaged-clause-news : goal.returns-in-Damaged-clause-news
returns-in-Damaged-clause-news c = λ p has. absurd (none_has _ p c.ended-in-Damaged.ensures.news has)

pub returns-in-Memory-clause-news : goal.returns-in-Memory-clause-news
returns-in-Memory-clause-news c = λ p has. absurd (none_has _ p c.ended-in-Memory.ensures.news has)

pub invariant_of-result : goal.invariant_of-result
invariant_of-result c =
    let next = c.in-Needs.ensures.next c.in-Needs.part c.in-Needs.page refl in
    record { low = c.args.task.now.low c.in-Needs.part next.wanted.named.named; short = next.few; clear = next.clear }
