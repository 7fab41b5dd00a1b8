use Rattle.std.proofs.Common.{arith}
use Rattle.std.specs.Arc.{arc_value}
use Rattle.run_core.specs.Tasks.{task_call}
use Rattle.run_core.specs.Steps.{with_part}
use Rattle.run_core.proofs.Fronts.{front_none}
use Rattle.run_core.proofs.Stepping.{ends_there, reading_reads}
use Rattle.run_core.proofs.run.first_phase.Goals as goal

pub returns-in-Some-clause-settled : goal.returns-in-Some-clause-settled
returns-in-Some-clause-settled c = λ none. none c.in-Some.part c.in-Some.ensures.next.0.read

pub returns-in-Some-clause-found : goal.returns-in-Some-clause-found
returns-in-Some-clause-found c = λ a whole.
    let call = task_call c.args.task.now in
    let seen = c.new.result in
    record {
      earlier = c.next_is_seen.ensures a call 0 c.in-Some.part seen.known seen.read.items c.in-Some.ensures.next.0 (c.none_is_seen.ensures a call seen.known seen.read.items c.new.ensures.known);
      front = λ pages pin. front_none a pages c.new-in-Some.result.items c.new-in-Some.ensures.items;
    }

pub returns-in-Some-clause-reads : goal.returns-in-Some-clause-reads
returns-in-Some-clause-reads c = reading_reads (arc_value c.args.task.now.operation) _

pub returns-in-None-clause-found : goal.returns-in-None-clause-found
returns-in-None-clause-found c = λ a whole.
    let call = task_call c.args.task.now in
    let seen = c.new-in-None.result in
    c.conclude.ensures.found a whole (c.all_is_seen.ensures a call 0 seen.known seen.read.items c.in-None.ensures.none (c.none_is_seen.ensures a call seen.known seen.read.items c.new-in-None.ensures.known))

pub returns-in-Some-clause-starts : goal.returns-in-Some-clause-starts
returns-in-Some-clause-starts c = with_part c.in-Some.ensures.next.0

pub returns-in-None-clause-starts : goal.returns-in-None-clause-starts
returns-in-None-clause-starts c = ends_there (task_call c.args.task.now) c.conclude.result c.in-None.ensures.none (c.conclude.ensures.settled (λ p reads. c.in-None.ensures.none p reads (omega arith))) c.conclude.ensures.sealed
