use Rattle.std.proofs.Common.{Ok, codes}
use Rattle.clap.specs.Simple.{new_app}
use Rattle.command_line.specs.Commands.{required_rule}
use Rattle.command_line.proofs.Making.{and_explain, and_rule}
use Rattle.command_line.proofs.commands.audit_command.Goals as goal

pub returns : goal.returns
returns c =
    let one = and_rule (Ok c.titled.result) c.with_argument-one.result (new_app (codes "audit")) c.required.result (required_rule (codes "FILE")) c.with_argument-one.ensures c.titled.ensures c.required.ensures.local c.required.ensures.rule in
    let two = and_rule c.with_argument-one.result c.with_argument-two.result _ c.required-2.result (required_rule (codes "TRACE")) c.with_argument-two.ensures one c.required-2.ensures.local c.required-2.ensures.rule in
    and_explain c.with_argument-two.result c.with_explain.result _ c.with_explain.ensures two
