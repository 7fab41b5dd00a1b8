use Rattle.std.proofs.Common.{◌≡◌, subst}
use Rattle.std.specs.Prelude.{IfOk}
use Rattle.std.proofs.lemmas.Result.{IfOk-weaker}
use Rattle.clap.specs.Simple.{app_of}
use Rattle.command_line.proofs.commands.with_command.Goals as goal

pub returns-in-Ok : goal.returns-in-Ok
returns-in-Ok c = IfOk-weaker c.joined.result _ _ (λ r h a b is under.
    h a b (subst (λ o. IfOk o (λ m. app_of m ≡ a)) c.in-Ok.is is) (IfOk-weaker c.named.result _ _ (λ s same. same b under) c.named.ensures)) c.joined.ensures
