use Rattle.std.proofs.Common.{subst, arith}
use Rattle.std.specs.Prelude.{All}
use Rattle.std.proofs.lemmas.List.{take_all}
use Rattle.client_core.specs.Start.{IsBelow}
use Rattle.client_core.proofs.Starting.{all_below}
use Rattle.client_core.proofs.start.greatest.Goals as goal

pub loop-place-preserved : goal.loop-place-preserved
loop-place-preserved c =
    all_below c.args.hosted.now.guests c.loop-place.most c.greater-most.result c.args.held.now c.loop-place.place c.index-held-place.result c.loop-place-test.true c.index-held-place.is c.greater-most.ensures.more c.greater-most.ensures.below c.loop-place.invariant

pub returns : goal.returns
returns c = subst (λ xs. All (IsBelow c.args.hosted.now.guests c.loop-place.most) xs) (take_all c.loop-place.place c.args.held.now (omega arith)) c.loop-place.invariant
