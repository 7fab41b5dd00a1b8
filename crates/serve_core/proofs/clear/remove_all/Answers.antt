use Rattle.serve_core.specs.Deeds.{none}
use Rattle.serve_core.proofs.Asking.{remove_more}
use Rattle.serve_core.proofs.clear.remove_all.Goals as goal

pub loop-number-init : goal.loop-number-init
loop-number-init g c = none

pub loop-number-preserved : goal.loop-number-preserved
loop-number-preserved g c =
    remove_more g.V.Values.does _ _ _ c.args.numbers.now c.loop-number.number-index c.remove.result c.loop-number-test.true c.loop-number.invariant c.remove.ensures
