use Rattle.std.proofs.Common.{subst}
use Rattle.guest_core.specs.Held.{Fits, NoneFits}
use Rattle.guest_core.proofs.Ending.{take_whole}
use Rattle.guest_core.proofs.held.oldest.Goals as goal

pub returns : goal.returns
returns c = subst (NoneFits (Fits c.args.rule c.args.arguments.now)) (take_whole c.args.held.now c.held.place c.held-test.false) c.held.invariant
