use Rattle.command_tool.proofs.Audits.{run_small}
use Rattle.command_tool.proofs.audit_answer.audit_trace.Goals as goal

pub returns-in-Ok-write_whole-clause-status : goal.returns-in-Ok-write_whole-clause-status
returns-in-Ok-write_whole-clause-status g c = run_small _ _ _ _ c.in-Ok-audit_said.ensures
