use Rattle.serve_core.proofs.Numbering.{above_more, above_all}
use Rattle.serve_core.proofs.folder.number_above.Goals as goal

pub loop-number-preserved : goal.loop-number-preserved
loop-number-preserved c = λ low.
    above_more _ _ _ _ c.loop-number-test.true c.above_both-first.ensures.stays c.above_both-first.ensures.rises low (c.loop-number.invariant low)

pub returns : goal.returns
returns c = λ low. above_all _ _ _ c.loop-number-test.false (c.loop-number.invariant low)
