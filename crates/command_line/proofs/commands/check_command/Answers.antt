use Rattle.std.proofs.Common.{Ok, codes}
use Rattle.clap.specs.Simple.{new_app}
use Rattle.command_line.specs.Commands.{flag_rule, required_rule}
use Rattle.command_line.proofs.Making.{and_explain, and_rule}
use Rattle.command_line.proofs.commands.check_command.Goals as goal

pub returns : goal.returns
returns c =
    let one = and_rule (Ok c.titled.result) c.with_argument-one.result (new_app (codes "check")) c.required.result (required_rule (codes "FILE")) c.with_argument-one.ensures c.titled.ensures c.required.ensures.local c.required.ensures.rule in
    let two = and_rule c.with_argument-one.result c.with_argument-two.result _ c.flag.result (flag_rule (codes "stuck")) c.with_argument-two.ensures one c.flag.ensures.local c.flag.ensures.rule in
    and_explain c.with_argument-two.result c.with_explain.result _ c.with_explain.ensures two
