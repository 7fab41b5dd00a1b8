use Rattle.value_core.specs.declared.kind.Kind.TheVariants as kinds
use Rattle.apply_core.proofs.Tables.{has_is}
use Rattle.apply_core.proofs.table.has.Goals as goal

pub returns : goal.returns
returns c = λ v is.
    has_is c.args.bytes.now c.opened-count.result.1.now c.args.sort c.opened-count.result.0 c.args.key.now c.find_text-there.result.1.now c.find_text-there.result.2.now v is (c.opened-count.ensures (kinds.Table c.args.sort) v is) c.find_text-there.result.0 c.find_text-there.ensures.stands c.find_text-there.ensures.gap
