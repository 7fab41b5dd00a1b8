use Rattle.std.proofs.Common.{take}
use Rattle.client_core.specs.Start.{HoldsNoneOf}
use Rattle.client_core.proofs.start.holds_one.Given as goal

abbrev pub invariant-loop-place : goal.invariant-loop-place
invariant-loop-place l = HoldsNoneOf (take l.place l.held) l.session
