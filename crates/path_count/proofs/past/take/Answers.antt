use Rattle.std.proofs.Common.{◌+◌, refl, sym, subst, arith}
use Rattle.path_tree.specs.Trace.{running_calls}
use Rattle.path_count.specs.Stands.{StandsFor, started_calls}
use Rattle.path_count.specs.Past.{most_numbers, with_event, call_of}
use Rattle.path_count.proofs.Behind.{ends_one, some_runs}
use Rattle.path_count.proofs.past.take.Goals as goal

pub returns-in-Start : goal.returns-in-Start
returns-in-Start c = λ yes n paths t h numbered.
    subst (λ e. StandsFor c.start.new.self n paths (with_event t e)) (sym c.in-Start.is)
    (c.start.ensures.taken yes n paths t (record { number = (most_numbers + 1) + started_calls t; operation = c.in-Start.op }) h refl
    (numbered ((most_numbers + 1) + started_calls t) (omega arith)))

pub returns-in-End : goal.returns-in-End
returns-in-End c = λ yes n paths t h numbered.
    let runs = (c.finish.ensures.answer n paths t h).0 yes in
    let one = ends_one c.in-End.op (running_calls t) (some_runs c.in-End.op t h.trace runs.1) in
    subst (λ e. StandsFor c.finish.new.self n paths (with_event t e)) (sym c.in-End.is)
    (c.finish.ensures.ended yes n paths t (call_of c.in-End.op (running_calls t)) h one.0 one.1)
