use Rattle.std.proofs.Common.{rules, Err, ap, ◌∙◌}
use Rattle.std.specs.Prelude.{IsErrOf}
use Rattle.value_bytes.specs.declared.decode.DecodeFault.TheVariants.{Damaged}
use Rattle.audit_core.specs.Tells.{IsHex}
use Rattle.audit_core.proofs.PartsRead.{no_value}
use Rattle.audit_core.proofs.part.read_spelled.Goals as goal

pub returns-in-Err-Damaged : goal.returns-in-Err-Damaged
returns-in-Err-Damaged c =
    let told : IsErrOf c.decode_kept.result Damaged = c.in-Err-Damaged.is ∙ ap Err c.in-Err-Damaged.field-0-is in
    let hex : IsHex c.args.word.now c.deref.result.now = search rules in
    no_value c.args.word.now c.deref.result.now c.args.kind hex (c.decode_kept.ensures.damaged told)
