use Rattle.std.proofs.Common.{◌∙◌, ap, Ok, codes}
use Rattle.clap.specs.Simple.{app_of_fields, new_app}
use Rattle.clap.specs.declared.builder.command.Command.{Command}
use Rattle.clap.specs.declared.builder.command.Command.TheOpen.{Command-F}
use Rattle.command_line.specs.Commands.{flag_rule, required_rule, sessions_rule}
use Rattle.command_line.specs.Making.{IsMade}
use Rattle.command_line.proofs.Making.{and_explain, and_rule}
use Rattle.command_line.proofs.commands.serve_command.Goals as goal

pub returns : goal.returns
returns c =
    let zero : IsMade c.override_usage.result (new_app (codes "serve")) = (
      ap app_of_fields c.override_usage.ensures ∙ c.titled.ensures.0,
      ap (λ (f : Command-F Command). f.has_globals) c.override_usage.ensures ∙ c.titled.ensures.1,
    ) in
    let one = and_rule (Ok c.override_usage.result) c.with_argument-one.result (new_app (codes "serve")) c.required.result (required_rule (codes "FILE")) c.with_argument-one.ensures zero c.required.ensures.local c.required.ensures.rule in
    let two = and_rule c.with_argument-one.result c.with_argument-two.result _ c.required-2.result (required_rule (codes "DIR")) c.with_argument-two.ensures one c.required-2.ensures.local c.required-2.ensures.rule in
    let three = and_rule c.with_argument-two.result c.with_argument-three.result _ c.required-3.result (required_rule (codes "PLACE")) c.with_argument-three.ensures two c.required-3.ensures.local c.required-3.ensures.rule in
    let four = and_rule c.with_argument-three.result c.with_argument-four.result _ c.sessions_option.result sessions_rule c.with_argument-four.ensures three c.sessions_option.ensures.local c.sessions_option.ensures.rule in
    let five = and_rule c.with_argument-four.result c.with_argument-five.result _ c.flag.result (flag_rule (codes "stop-with-input")) c.with_argument-five.ensures four c.flag.ensures.local c.flag.ensures.rule in
    and_explain c.with_argument-five.result c.with_explain.result _ c.with_explain.ensures five
