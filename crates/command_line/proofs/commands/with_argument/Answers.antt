use Rattle.std.proofs.Common.{subst}
use Rattle.std.specs.Prelude.{IfOk}
use Rattle.std.proofs.lemmas.Result.{IfOk-weaker}
use Rattle.command_line.specs.Making.{IsMade}
use Rattle.command_line.proofs.Making.{with_arg}
use Rattle.command_line.proofs.commands.with_argument.Goals as goal

pub returns-in-Ok : goal.returns-in-Ok
returns-in-Ok c = IfOk-weaker c.arg.result _ _ (λ r h a rule is local same. with_arg _ r _ rule a h local same (subst (λ o. IfOk o (λ m. IsMade m a)) c.in-Ok.is is)) c.arg.ensures
