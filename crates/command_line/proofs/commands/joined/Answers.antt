use Rattle.std.proofs.Common.{subst}
use Rattle.std.specs.Prelude.{IfOk}
use Rattle.std.proofs.lemmas.Result.{IfOk-weaker}
use Rattle.command_line.specs.Making.{IsMade}
use Rattle.command_line.proofs.Making.{with_sub}
use Rattle.command_line.proofs.commands.joined.Goals as goal

pub returns-in-Ok : goal.returns-in-Ok
returns-in-Ok c = IfOk-weaker c.subcommand.result _ _ (λ r h a b is under. with_sub _ _ r a b h (subst (λ o. IfOk o (λ s. IsMade s b)) c.in-Ok.is under) is) c.subcommand.ensures
