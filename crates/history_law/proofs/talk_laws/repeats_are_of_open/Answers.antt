use Rattle.history_law.proofs.Answering.{repeats_are_of_open}
use Rattle.history_law.proofs.talk_laws.repeats_are_of_open.Goals as goal

pub returns : goal.returns
returns c = repeats_are_of_open
