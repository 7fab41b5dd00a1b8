use Rattle.std.proofs.Common.{Ok, Err, sym, ◌∙◌, inl, inr}
use Rattle.std.specs.Arc.{arc_value}
use Rattle.device_core.specs.declared.hand.HandFault.TheVariants.{Memory}
use Rattle.run_core.specs.Tasks.{task_call}
use Rattle.run_core.specs.Steps.{pages_on}
use Rattle.run_core.proofs.Inside.{none_has}
use Rattle.run_core.proofs.Paging.{paged_there}
use Rattle.run_core.proofs.Serving.{no_files, only_device, memory_ends}
use Rattle.run_core.proofs.Stepping.{failed_there, reads_first, ended_reads}
use Rattle.run_core.proofs.read.page_step.Goals as goal

pub returns-in-None-clause-steps : goal.returns-in-None-clause-steps
returns-in-None-clause-steps g c = failed_there (task_call c.args.task.now) _ _ Memory c.new.result.items reads_first c.new.ensures.items c.failed.ensures.place

pub returns-in-None-clause-reads : goal.returns-in-None-clause-reads
returns-in-None-clause-reads g c = ended_reads (arc_value c.args.task.now.operation) _ _ _ c.failed.ensures.place

pub returns-in-None-clause-written : goal.returns-in-None-clause-written
returns-in-None-clause-written g c = no_files (g.H.Hand.serves c.args.hand.now) _ (c.failed.ensures.sealed ∙ c.new.ensures.items)

pub returns-in-None-clause-news : goal.returns-in-None-clause-news
returns-in-None-clause-news g c = λ p has. absurd (none_has _ p c.failed.ensures.news has)

pub returns-in-Err-clause-steps : goal.returns-in-Err-clause-steps
returns-in-Err-clause-steps g c = failed_there (task_call c.args.task.now) _ _ c.in-Err.fault c.new-in-Err.result.items reads_first c.new-in-Err.ensures.items c.failed-in-Err.ensures.place

pub returns-in-Err-clause-reads : goal.returns-in-Err-clause-reads
returns-in-Err-clause-reads g c = ended_reads (arc_value c.args.task.now.operation) _ _ _ c.failed-in-Err.ensures.place

pub returns-in-Err-clause-written : goal.returns-in-Err-clause-written
returns-in-Err-clause-written g c = no_files (g.H.Hand.serves c.read_more.new.hand) _ (c.failed-in-Err.ensures.sealed ∙ c.new-in-Err.ensures.items)

pub returns-in-Err-clause-news : goal.returns-in-Err-clause-news
returns-in-Err-clause-news g c = λ p has. absurd (none_has _ p c.failed-in-Err.ensures.news has)

pub returns-in-Err-clause-in_order : goal.returns-in-Err-clause-in_order
returns-in-Err-clause-in_order g c = λ works served is.
    let there = c.in-Some.ensures.there in
    c.in-Err.ensures.in_order works (served there.0 c.in-Some.stamp there.1 there.2) (only_device c.in-Err.fault (sym c.failed-in-Err.ensures.ending ∙ is))

pub returns-in-Err-clause-makes : goal.returns-in-Err-clause-makes
returns-in-Err-clause-makes g c =
    let there = c.in-Some.ensures.there in
    elim c.in-Err.ensures.makes [
      | inl none ↦ inl (memory_ends c.in-Err.fault _ none.0 c.failed-in-Err.ensures.ending, none.1)
      | inr made ↦ inr (c.in-Some.stamp, (there.0, there.1, there.2), (made.0, Err c.in-Err.fault, made.1, c.failed-in-Err.ensures.ending))
    ]

pub returns-clause-found : goal.returns-clause-found
returns-clause-found g c = λ a agrees whole is.
    let there = c.in-Some.ensures.there in
    let call = task_call c.args.task.now in
    let m = c.args.m in
    c.conclude.ensures.found a whole
    (c.in-Ok.ensures.found a agrees call there.0 (paged_there a call m.seen.known m.seen.read.items m.part m.page m.low m.short m.clear is.seen) there.1 there.2 whole is.seen)

pub returns-clause-steps : goal.returns-clause-steps
returns-clause-steps g c = pages_on c.read_more.new.seen.known c.in-Ok.ensures.more c.in-Ok.ensures.falls c.conclude.ensures.steps

pub returns-clause-written : goal.returns-clause-written
returns-clause-written g c = no_files (g.H.Hand.serves c.read_more.new.hand) _ c.conclude.ensures.sealed

pub returns-clause-makes : goal.returns-clause-makes
returns-clause-makes g c =
    let there = c.in-Some.ensures.there in
    elim c.in-Ok.ensures.makes [
      | inl none ↦ absurd cc
      | inr made ↦ inr (c.in-Some.stamp, (there.0, there.1, there.2), (made.0, Ok c.in-Ok.field-0, made.1, c.conclude.ensures.cause))
    ]
