use Rattle.office_core.specs.Submissions.{IsCallOf}
use Rattle.board_core.specs.Board.{call_at}
use Rattle.office_core.proofs.SlipFound.{is_there}
use Rattle.office_core.proofs.find.is_of.Goals as goal

pub returns-in-Some : goal.returns-in-Some
returns-in-Some c = is_there (IsCallOf c.args.submitted.now) (call_at c.args.desk.now.calls c.args.submitted.now.number) c.in-Some.call.now c.is_call_of.result c.in-Some.ensures.some c.is_call_of.ensures
