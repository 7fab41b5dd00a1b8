use Rattle.history_law.proofs.Answering.{lines_are_answered}
use Rattle.history_law.proofs.talk_laws.lines_are_answered.Goals as goal

pub returns : goal.returns
returns c = lines_are_answered
