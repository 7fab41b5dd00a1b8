use Rattle.std.proofs.Common.{◌+◌, ◌<◌, ◌≤◌, length, subst, sym, arith}
use Rattle.run_core.proofs.Changes.{Changing, next, all}
use Rattle.run_core.proofs.judge.changes_of.Goals as goal

pub loop-part-preserved : goal.loop-part-preserved
loop-part-preserved c =
    let within : c.loop-part.part < length c.args.after.now = omega (arith, c.loop-part-test.true) in
    subst (Changing c.args.operation.now c.args.read.now c.args.after.now (c.loop-part.part + 1)) (sym c.in_ok-add.ensures)
    (next c.args.operation.now c.args.read.now c.args.after.now c.loop-part.part c.loop-part.changes.items c.in_ok-change.change c.loop-part.invariant within c.in_ok-change.ensures)

pub returns-clause-changes : goal.returns-clause-changes
returns-clause-changes c =
    let end : length c.args.after.now ≤ c.loop-part.part = omega (arith, c.loop-part-test.false) in
    all c.args.operation.now c.args.read.now c.args.after.now c.loop-part.part c.loop-part.changes.items end c.loop-part.invariant
