use Rattle.history_law.proofs.Serving.{answers_are_written}
use Rattle.history_law.proofs.talk_laws.answers_are_written.Goals as goal

pub returns : goal.returns
returns c = answers_are_written
