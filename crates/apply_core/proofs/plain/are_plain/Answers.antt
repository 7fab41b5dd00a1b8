use Rattle.apply_core.proofs.Cutting.{first_eight, behind_eight, cut_eight}
use Rattle.apply_core.proofs.Plains.{front_passed}
use Rattle.apply_core.proofs.plain.are_plain.Goals as goal

pub eights-preserved : goal.eights-preserved
eights-preserved c =
    front_passed c.are_plain_eight.result c.eights.rest.now (first_eight c.eights.rest.now) (behind_eight c.eights.rest.now) c.args.bytes.now (cut_eight c.eights.rest.now c.in-len8-up.len_at_least) c.are_plain_eight.ensures c.if-not-are_plain_eight.false c.eights.invariant
