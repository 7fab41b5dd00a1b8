use Rattle.std.proofs.Common.{[], ◌+◌, ◌-◌, ◌≤◌}
use Rattle.std.specs.Prelude.{All}
use Rattle.live_core.specs.HostedSteps.{Steps}
use Rattle.client_core.specs.Start.{HoldsNoneOf, KeepsTaken, NoneFreeBelow}
use Rattle.client_core.proofs.start.seat_up_to.Given as goal

abbrev pub invariant-seats : goal.invariant-seats
invariant-seats l = Steps l.initial.hosted [] l.hosted × KeepsTaken l.initial.hosted.guests l.hosted.guests × NoneFreeBelow l.hosted.guests l.count × All (HoldsNoneOf l.held) l.others.items × (l.count ≤ l.most + 1)

abbrev pub decreases-seats : goal.decreases-seats
decreases-seats l = (l.most + 1) - l.count
