use Rattle.std.proofs.Common.{◌+◌, ◌≤◌, length, subst, sym, arith}
use Rattle.run_core.proofs.DecodedParts.{Decoding, next, spelled}
use Rattle.run_core.proofs.judge.decode_parts.Goals as goal

pub loop-part-preserved : goal.loop-part-preserved
loop-part-preserved c =
    subst (Decoding c.args.operation.now c.args.read.now (c.loop-part.part + 1)) (sym c.in_ok-put.ensures)
    (next c.args.operation.now c.args.read.now c.loop-part.part c.loop-part.parts.items c.in-Ok.value c.loop-part.invariant c.in-Ok.ensures.found)

pub returns-clause-spelled : goal.returns-clause-spelled
returns-clause-spelled c =
    let end : length c.args.operation.now.kinds.items ≤ c.loop-part.part = omega (arith, c.loop-part-test.false, c.len-count.ensures, c.args.operation.now.kinds.ok.0) in
    spelled c.args.operation.now c.args.read.now c.loop-part.part c.loop-part.parts.items end c.loop-part.invariant
