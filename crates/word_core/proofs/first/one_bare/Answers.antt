use Rattle.std.proofs.Common.{sym, ◌∙◌}
use Rattle.word_core.proofs.Firsts.{no_only, not_only}
use Rattle.word_core.proofs.first.one_bare.Goals as goal

pub returns-in_err-word : goal.returns-in_err-word
returns-in_err-word c = rw c.from_residual.ensures (no_only c.args.line.now c.in_err-word.ensures)

pub returns : goal.returns
returns c =
    not_only c.args.line.now c.in_ok-word.word.now c.in_ok-word.rest.now c.skip_spaces.result.now c.in_ok-word.ensures c.skip_spaces.ensures (sym c.is_empty.ensures ∙ c.if-is_empty.false)
