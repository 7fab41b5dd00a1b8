use Rattle.history_law.proofs.Standing.{repeats_stand}
use Rattle.history_law.proofs.repeat_laws.repeats_stand.Goals as goal

pub returns : goal.returns
returns c = repeats_stand
