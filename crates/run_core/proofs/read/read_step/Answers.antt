use Rattle.std.proofs.Common.{◌+◌, Ok, Err, arith, sym, ◌∙◌, inl, inr, refl}
use Rattle.std.specs.Arc.{arc_value}
use Rattle.device_core.specs.declared.hand.HandFault.TheVariants.{Memory}
use Rattle.run_core.specs.Tasks.{task_call}
use Rattle.run_core.specs.Steps.{reads_on}
use Rattle.run_core.proofs.Fronts.{reading_on, part_is_read}
use Rattle.run_core.proofs.Inside.{none_has}
use Rattle.run_core.proofs.Serving.{no_files, only_device, memory_ends, running}
use Rattle.run_core.proofs.Stepping.{failed_there, reads_first, ended_reads, reading_reads}
use Rattle.run_core.proofs.read.read_step.Goals as goal

pub returns-in-None-clause-steps : goal.returns-in-None-clause-steps
returns-in-None-clause-steps g c = failed_there (task_call c.args.task.now) _ _ Memory c.new.result.items reads_first c.new.ensures.items c.failed.ensures.place

pub returns-in-None-clause-written : goal.returns-in-None-clause-written
returns-in-None-clause-written g c = no_files (g.H.Hand.serves c.args.hand.now) _ (c.failed.ensures.sealed ∙ c.new.ensures.items)

pub returns-in-None-clause-news : goal.returns-in-None-clause-news
returns-in-None-clause-news g c = λ p has. absurd (none_has _ p c.failed.ensures.news has)

pub returns-in-Err-clause-steps : goal.returns-in-Err-clause-steps
returns-in-Err-clause-steps g c = failed_there (task_call c.args.task.now) _ _ c.in-Err.fault c.new-in-Err.result.items reads_first c.new-in-Err.ensures.items c.failed-in-Err.ensures.place

pub returns-in-Err-clause-written : goal.returns-in-Err-clause-written
returns-in-Err-clause-written g c = no_files (g.H.Hand.serves c.read_page.new.hand) _ (c.failed-in-Err.ensures.sealed ∙ c.new-in-Err.ensures.items)

pub returns-in-Err-clause-news : goal.returns-in-Err-clause-news
returns-in-Err-clause-news g c = λ p has. absurd (none_has _ p c.failed-in-Err.ensures.news has)

pub returns-in-Err-clause-in_order : goal.returns-in-Err-clause-in_order
returns-in-Err-clause-in_order g c = λ works served is.
    let there = c.in-Some.ensures.there in
    c.in-Err.ensures.in_order works (served there.0 c.in-Some.found.0 there.1 there.2) (only_device c.in-Err.fault (sym c.failed-in-Err.ensures.ending ∙ is))

pub returns-in-Err-clause-makes : goal.returns-in-Err-clause-makes
returns-in-Err-clause-makes g c =
    let there = c.in-Some.ensures.there in
    elim c.in-Err.ensures.makes [
      | inl none ↦ inl (memory_ends c.in-Err.fault _ none.0 c.failed-in-Err.ensures.ending, none.1)
      | inr made ↦ inr (c.in-Some.found.0, (there.0, there.1, there.2), (made.0, Err c.in-Err.fault, made.1, c.failed-in-Err.ensures.ending))
    ]

pub returns-in-Err-clause-reads : goal.returns-in-Err-clause-reads
returns-in-Err-clause-reads g c = ended_reads (arc_value c.args.task.now.operation) _ _ _ c.failed-in-Err.ensures.place

pub returns-in-None-clause-reads : goal.returns-in-None-clause-reads
returns-in-None-clause-reads g c = ended_reads (arc_value c.args.task.now.operation) _ _ _ c.failed.ensures.place

pub returns-then-not-is_last-clause-found : goal.returns-then-not-is_last-clause-found
returns-then-not-is_last-clause-found g c = λ a agrees whole is.
    let there = c.in-Some.ensures.there in
    let page = c.in-Ok.ensures.found in
    record {
      earlier = is.earlier;
      front = reading_on a (task_call c.args.task.now) c.args.r.part c.args.r.page (c.args.r.page + 1) c.in-Some.found.0 c.args.r.got.items c.read_page.new.got.items page.0 there.0 there.1 there.2 refl page.1 (page.2 a agrees) is.front;
    }

pub returns-then-not-is_last-clause-steps : goal.returns-then-not-is_last-clause-steps
returns-then-not-is_last-clause-steps g c =
    let there = c.in-Some.ensures.there in
    let more = c.is_last.ensures.more c.if-not-is_last.true in
    reads_on there.0 there.1 (omega (arith, there.3, more.0)) more.1

pub returns-then-not-is_last-clause-reads : goal.returns-then-not-is_last-clause-reads
returns-then-not-is_last-clause-reads g c = reading_reads (arc_value c.args.task.now.operation) _

pub returns-then-not-is_last-clause-makes : goal.returns-then-not-is_last-clause-makes
returns-then-not-is_last-clause-makes g c =
    let there = c.in-Some.ensures.there in
    elim c.in-Ok.ensures.makes [
      | inl none ↦ absurd cc
      | inr made ↦ inr (c.in-Some.found.0, (there.0, there.1, there.2), (made.0, Ok c.in-Ok.field-0, made.1, λ bad. absurd (running refl bad)))
    ]

pub returns-clause-found : goal.returns-clause-found
returns-clause-found g c = λ a agrees whole is.
    let there = c.in-Some.ensures.there in
    let page = c.in-Ok.ensures.found in
    let call = task_call c.args.task.now in
    c.next_part.ensures.found a whole is.earlier
    (part_is_read a call c.args.r.part there.0 c.args.r.page (c.args.r.page + 1) c.in-Some.found.0 c.args.r.got.items c.read_page.new.got.items page.0 there.1 refl
    (λ later. elim (c.is_last.ensures.last c.if-not-is_last.false) [ inl all ↦ omega (arith, there.3, all) | inr first ↦ absurd (later first) ]) page.1 there.2 (page.2 a agrees) (is.front there.0 there.1))

pub returns-clause-steps : goal.returns-clause-steps
returns-clause-steps g c =
    let there = c.in-Some.ensures.there in
    c.next_part.ensures.steps (record { pages = there.0; pinned = there.1; last = elim (c.is_last.ensures.last c.if-not-is_last.false) [ inl all ↦ inl (all ∙ there.3) | inr first ↦ inr first ] })

pub returns-clause-written : goal.returns-clause-written
returns-clause-written g c = no_files (g.H.Hand.serves c.read_page.new.hand) _ c.next_part.ensures.sealed

pub returns-clause-makes : goal.returns-clause-makes
returns-clause-makes g c =
    let there = c.in-Some.ensures.there in
    elim c.in-Ok.ensures.makes [
      | inl none ↦ absurd cc
      | inr made ↦ inr (c.in-Some.found.0, (there.0, there.1, there.2), (made.0, Ok c.in-Ok.field-0, made.1, c.next_part.ensures.cause))
    ]
