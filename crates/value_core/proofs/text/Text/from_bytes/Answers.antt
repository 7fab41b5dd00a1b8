use Rattle.std.proofs.Common.{rules, arith, All}
use Rattle.value_core.specs.Plain.{IsPlain}
use Rattle.value_core.proofs.Padding.{kept}
use Rattle.value_core.proofs.text.Text.from_bytes.Goals as goal

pub invariant_of-result : goal.invariant_of-result
invariant_of-result c =
    let plain : All IsPlain c.args.bytes.now = search rules in
    kept c.args.bytes.now c.write_front.new.row c.write_front.ensures (omega arith) plain
