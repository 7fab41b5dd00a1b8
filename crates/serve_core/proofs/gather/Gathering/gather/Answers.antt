use Rattle.std.proofs.Common.{ap, length, arith}
use Rattle.serve_core.specs.Gathers.{slips_in}
use Rattle.serve_core.proofs.Steps.{step_some, step_none}
use Rattle.serve_core.proofs.Gathering.{gathered_none, gathered_more, gathered_all}
use Rattle.serve_core.proofs.gather.Gathering.gather.Goals as goal

pub loop-came-init : goal.loop-came-init
loop-came-init g c =
    let gives = c.into_iter-came-iterator.ensures.into_iter_gives in
    gathered_none _ _ _ _ _ gives.0 (omega (arith, gives.1, ap length gives.0, c.args.all.ok.0))

pub loop-came-preserved : goal.loop-came-preserved
loop-came-preserved g c =
    let step = step_some c.loop-came.came-iterator c.next.new.self _ _ c.in-Some.is c.next.ensures.steps in
    gathered_more {then = c.gather_one.new.trouble} {next = slips_in c.gather_one.new.self.all.items} c.in-Some.came _ _ c.loop-came.invariant step.0 step.1 c.gather_one.ensures

pub returns : goal.returns
returns g c = gathered_all _ _ c.loop-came.invariant (step_none c.loop-came.came-iterator c.next.new.self _ c.in-None.is c.next.ensures.steps)
