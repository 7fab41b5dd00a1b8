use Rattle.std.proofs.Common.{◌+◌, Err, ap, sym, subst, arith}
use Rattle.std.specs.Arc.{arc_value}
use Rattle.device_core.specs.declared.hand.HandFault.TheVariants.{Memory}
use Rattle.run_core.specs.Tasks.{task_call}
use Rattle.run_core.specs.Steps.{Follows, at_read, reads_next, reads_last, misses}
use Rattle.run_core.proofs.Fronts.{front_none}
use Rattle.run_core.proofs.Inside.{none_has}
use Rattle.run_core.proofs.Stepping.{failed_there, reads_first, ended_reads, reading_reads}
use Rattle.run_core.proofs.read.next_part.Goals as goal

pub returns-in-Err-Damaged-clause-found : goal.returns-in-Err-Damaged-clause-found
returns-in-Err-Damaged-clause-found c = λ a whole before got.
    c.ended.ensures.found a (task_call c.args.task.now) (λ news none. c.in-Err-Damaged.ensures.damaged (ap Err c.in-Err-Damaged.field-0-is) a whole got) tt

pub returns-in-Err-Damaged-clause-steps : goal.returns-in-Err-Damaged-clause-steps
returns-in-Err-Damaged-clause-steps c = λ last. subst (Follows (task_call c.args.task.now) (at_read c.args.part c.args.page)) (sym c.ended.ensures.place) (misses (c.in-Err-Damaged.ensures.front (ap Err c.in-Err-Damaged.field-0-is)))

pub returns-in-Err-Damaged-clause-reads : goal.returns-in-Err-Damaged-clause-reads
returns-in-Err-Damaged-clause-reads c = ended_reads (arc_value c.args.task.now.operation) _ _ _ c.ended.ensures.place

pub returns-in-Err-Damaged-clause-news : goal.returns-in-Err-Damaged-clause-news
returns-in-Err-Damaged-clause-news c = λ p has. absurd (none_has _ p c.ended.ensures.news has)

pub returns-in-Err-Memory-clause-steps : goal.returns-in-Err-Memory-clause-steps
returns-in-Err-Memory-clause-steps c = λ last. failed_there (task_call c.args.task.now) _ _ Memory c.new.result.items reads_first c.new.ensures.items c.failed.ensures.place

pub returns-in-Err-Memory-clause-reads : goal.returns-in-Err-Memory-clause-reads
returns-in-Err-Memory-clause-reads c = ended_reads (arc_value c.args.task.now.operation) _ _ _ c.failed.ensures.place

pub returns-in-Err-Memory-clause-news : goal.returns-in-Err-Memory-clause-news
returns-in-Err-Memory-clause-news c = λ p has. absurd (none_has _ p c.failed.ensures.news has)

pub returns-in-Some-clause-found : goal.returns-in-Some-clause-found
returns-in-Some-clause-found c = λ a whole before got. record {
  earlier = c.next_is_seen.ensures a (task_call c.args.task.now) (c.args.part + 1) c.in-Some.next c.take.new.self.known c.take.new.self.read.items c.in-Some.ensures.next.0 (c.in-Ok.ensures.found a whole got before);
  front = λ pages pin. front_none a pages c.new-in-Some.result.items c.new-in-Some.ensures.items;
}

pub returns-in-Some-clause-steps : goal.returns-in-Some-clause-steps
returns-in-Some-clause-steps c = λ last. reads_next last c.in-Some.ensures.next.0

pub returns-in-Some-clause-reads : goal.returns-in-Some-clause-reads
returns-in-Some-clause-reads c = reading_reads (arc_value c.args.task.now.operation) _

pub returns-in-None-clause-found : goal.returns-in-None-clause-found
returns-in-None-clause-found c = λ a whole before got.
    c.conclude.ensures.found a whole (c.all_is_seen.ensures a (task_call c.args.task.now) (c.args.part + 1) c.take.new.self.known c.take.new.self.read.items c.in-None.ensures.none (c.in-Ok.ensures.found a whole got before))

pub returns-in-None-clause-steps : goal.returns-in-None-clause-steps
returns-in-None-clause-steps c = λ last. reads_last c.take.new.self.known last c.in-None.ensures.none c.take.new.self.few c.conclude.ensures.steps

pub returns-in-None-clause-less : goal.returns-in-None-clause-less
returns-in-None-clause-less c = omega (arith, c.conclude.ensures.less, c.take.new.self.few)
