use Rattle.std.proofs.Common.{arith}
use Rattle.check_core.proofs.HeldLine.{op_there, op_nowhere}
use Rattle.inside_core.proofs.held.op_at.Goals as goal

pub returns-in-Some : goal.returns-in-Some
returns-in-Some c = op_there c.args.rules.now c.args.place c.in-Some.hold.now c.in-Some.ensures.lookup.3.0 (c.in-Some.ensures.lookup.3.1 c.in-Some.hold.now)

pub returns-in-None : goal.returns-in-None
returns-in-None c = op_nowhere c.args.rules.now c.args.place (omega (arith, c.in-None.ensures.lookup.3))
