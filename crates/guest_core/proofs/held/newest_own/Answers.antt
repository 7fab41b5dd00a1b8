use Rattle.std.proofs.Common.{◌≡◌, arith, subst, drop}
use Rattle.guest_core.specs.Held.{Fits, NoneOwn}
use Rattle.guest_core.proofs.held.newest_own.Goals as goal

pub returns : goal.returns
returns c =
    let none : c.held.left ≡ 0 = omega (arith, c.held-test.false) in
    subst (λ n. NoneOwn (Fits c.args.rule c.args.arguments.now) c.args.session (drop n c.args.held.now)) none c.held.invariant.1
