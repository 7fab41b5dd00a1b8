use Rattle.std.proofs.Common.{codes}
use Rattle.std.proofs.lemmas.Result.{IfOk-weaker}
use Rattle.command_line.specs.Commands.{flag_rule}
use Rattle.command_line.proofs.Making.{and_rule}
use Rattle.command_line.proofs.commands.with_explain.Goals as goal

pub returns : goal.returns
returns c = IfOk-weaker c.with_argument.result _ _ (λ r h a is.
    h _ (flag_rule (codes "no-explain"))
    (and_rule _ c.with_argument-explained.result a c.flag.result (flag_rule (codes "explain")) c.with_argument-explained.ensures is c.flag.ensures.local c.flag.ensures.rule)
    c.flag-2.ensures.local c.flag-2.ensures.rule) c.with_argument.ensures
