use Rattle.std.proofs.Common.{◌≤◌, length, drop}
use Rattle.guest_core.specs.Held.{Fits, NoneOwn}
use Rattle.guest_core.proofs.held.newest_own.Given as goal

abbrev pub invariant-held : goal.invariant-held
invariant-held l = (l.left ≤ length l.held) × NoneOwn (Fits l.rule l.arguments) l.session (drop l.left l.held)

abbrev pub decreases-held : goal.decreases-held
decreases-held l = l.left
