use Rattle.command_tool.proofs.Audits.{no_line_of_trace}
use Rattle.command_tool.proofs.Lineless.{no_line_is_bad}
use Rattle.command_tool.proofs.laws.no_line_is_bad.Goals as goal

pub returns-clause-script : goal.returns-clause-script
returns-clause-script c = no_line_is_bad

pub returns-clause-trace : goal.returns-clause-trace
returns-clause-trace c = no_line_of_trace
