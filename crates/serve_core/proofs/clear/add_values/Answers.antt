use Rattle.std.proofs.Common.{arith}
use Rattle.serve_core.proofs.Asking.{add_more}
use Rattle.serve_core.proofs.clear.add_values.Goals as goal

pub loop-number-preserved : goal.loop-number-preserved
loop-number-preserved c = (
  add_more c.args.line.now.items c.loop-number.line.items c.add_value.new.line.items c.args.numbers.now c.loop-number.number-index c.loop-number-test.true c.loop-number.invariant.0 c.add_value.ensures.items,
  omega (arith, c.loop-number.invariant.1, c.add_value.ensures.most),
  omega (arith, c.loop-number.invariant.2, c.add_value.ensures.room),
)
