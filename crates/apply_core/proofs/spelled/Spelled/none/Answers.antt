use Rattle.apply_core.proofs.Holding.{found, opening}
use Rattle.value_core.specs.Contents.{queue}
use Rattle.std.proofs.Common.{[]}
use Rattle.value_core.specs.declared.kind.Kind.TheVariants as kinds
use Rattle.apply_core.proofs.Theres.{bytes_tell}
use Rattle.apply_core.proofs.spelled.Spelled.none.Goals as goal

pub invariant_of-result : goal.invariant_of-result
invariant_of-result c = found (kinds.Queue c.args.sort) c.in_ok-bytes.bytes.items (queue c.args.sort []) (opening c.in_ok-bytes.bytes.items c.args.sort c.in_ok-bytes.ensures)

pub returns : goal.returns
returns c = bytes_tell c.in_ok-bytes.bytes.items (kinds.Queue c.args.sort) (queue c.args.sort []) (opening c.in_ok-bytes.bytes.items c.args.sort c.in_ok-bytes.ensures)
