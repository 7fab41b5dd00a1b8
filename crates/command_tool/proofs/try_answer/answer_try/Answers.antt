use Rattle.std.proofs.Common.{sym, subst}
use Rattle.answer_core.specs.Status.{IsFault}
use Rattle.command_tool.proofs.Scripts.{is_fault}
use Rattle.command_tool.proofs.try_answer.answer_try.Goals as goal

pub returns-in-Err-clause-cut : goal.returns-in-Err-clause-cut
returns-in-Err-clause-cut g c = (subst IsFault (sym c.from.ensures) (is_fault c.in-Err.fault), c.in-Err.ensures.fault)
