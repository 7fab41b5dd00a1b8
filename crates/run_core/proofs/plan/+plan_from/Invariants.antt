use Rattle.std.proofs.Common.{length}
use Rattle.run_core.proofs.plan.+plan_from.Given as goal

abbrev pub decreases-plan_from : goal.decreases-plan_from
decreases-plan_from l = length l.counts.now
