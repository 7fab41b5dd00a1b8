use Rattle.std.proofs.Common.{◌∙◌, ap, subst}
use Rattle.std.specs.Prelude.{IfOk}
use Rattle.std.proofs.lemmas.Result.{IfOk-weaker}
use Rattle.clap.specs.Simple.{app_of_fields}
use Rattle.clap.specs.declared.builder.command.Command.{Command}
use Rattle.clap.specs.declared.builder.command.Command.TheOpen.{Command-F}
use Rattle.command_line.specs.Making.{IsMade}
use Rattle.command_line.proofs.commands.named.Goals as goal

pub returns-in-Ok : goal.returns-in-Ok
returns-in-Ok c = IfOk-weaker c.display_name.result _ _ (λ r h a is.
    let old : IsMade c.in-Ok.command a = subst (λ o. IfOk o (λ m. IsMade m a)) c.in-Ok.is is in
    (ap app_of_fields h.0 ∙ old.0, ap (λ (f : Command-F Command). f.has_globals) h.0 ∙ old.1)) c.display_name.ensures
