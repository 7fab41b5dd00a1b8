use Rattle.std.proofs.Common.{◌≡◌, arith, subst, drop}
use Rattle.std.specs.Prelude.{◌≢◌, All}
use Rattle.guest_core.specs.Held.{HeldCall}
use Rattle.guest_core.proofs.held.newest_of.Goals as goal

pub returns : goal.returns
returns c =
    let none : c.held.left ≡ 0 = omega (arith, c.held-test.false) in
    subst (λ n. All (λ (h : HeldCall). h.session ≢ c.args.session) (drop n c.args.held.now)) none c.held.invariant.1
