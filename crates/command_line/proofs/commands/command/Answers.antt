use Rattle.std.proofs.Common.{Ok}
use Rattle.command_line.proofs.Making.{and_command}
use Rattle.command_line.proofs.commands.command.Goals as goal

pub returns : goal.returns
returns c =
    let one = and_command (Ok c.program_alone.result) c.with_command-one.result _ c.paths_command.result _ c.with_command-one.ensures c.program_alone.ensures c.paths_command.ensures in
    let two = and_command c.with_command-one.result c.with_command-two.result _ c.check_command.result _ c.with_command-two.ensures one c.check_command.ensures in
    let three = and_command c.with_command-two.result c.with_command-three.result _ c.run_command.result _ c.with_command-three.ensures two c.run_command.ensures in
    let four = and_command c.with_command-three.result c.with_command-four.result _ c.audit_command.result _ c.with_command-four.ensures three c.audit_command.ensures in
    let five = and_command c.with_command-four.result c.with_command-five.result _ c.try_command.result _ c.with_command-five.ensures four c.try_command.ensures in
    let six = and_command c.with_command-five.result c.with_command-six.result _ c.serve_command.result _ c.with_command-six.ensures five c.serve_command.ensures in
    and_command c.with_command-six.result c.with_command.result _ c.keep_command.result _ c.with_command.ensures six c.keep_command.ensures
