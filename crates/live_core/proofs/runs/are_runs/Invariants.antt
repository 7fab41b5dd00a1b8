use Rattle.std.proofs.Common.{length}
use Rattle.live_core.specs.Front.{Every}
use Rattle.live_core.specs.Fits.{RunFits}
use Rattle.live_core.proofs.runs.are_runs.Given as goal

abbrev pub invariant-runs : goal.invariant-runs
invariant-runs l = Every (RunFits l.operations) l.rest → Every (RunFits l.operations) l.runs

abbrev pub decreases-runs : goal.decreases-runs
decreases-runs l = length l.rest
