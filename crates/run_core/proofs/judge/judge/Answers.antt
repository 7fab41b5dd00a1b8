use Rattle.std.proofs.Common.{ap, ◌∙◌, Err}
use Rattle.run_core.specs.Verdicts.{ReadAs}
use Rattle.run_core.proofs.Deciding.{is_damaged}
use Rattle.run_core.proofs.judge.judge.Goals as goal

pub returns-in-Err-Damaged-clause-judged : goal.returns-in-Err-Damaged-clause-judged
returns-in-Err-Damaged-clause-judged c whole known =
    is_damaged c.args.known.now c.args.operation.now c.args.read.now (ReadAs whole) known (c.decode_all.ensures.damaged (c.in-Err-Damaged.is ∙ ap (λ f. Err f) c.in-Err-Damaged.field-0-is))
