use Rattle.std.proofs.Common.{◌≡◌, ◌≤◌, length, drop}
use Rattle.std.specs.Prelude.{◌≢◌, All}
use Rattle.guest_core.specs.Held.{HeldCall}
use Rattle.guest_core.proofs.held.newest_of.Given as goal

abbrev pub invariant-held : goal.invariant-held
invariant-held l = (l.left ≤ length l.held) × All (λ (h : HeldCall). h.session ≢ l.session) (drop l.left l.held)

abbrev pub decreases-held : goal.decreases-held
decreases-held l = l.left
