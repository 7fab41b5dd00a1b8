use Rattle.history_law.proofs.Lasting.{repeats_stand}
use Rattle.history_law.proofs.year_laws.repeats_stand.Goals as goal

pub returns : goal.returns
returns c = repeats_stand
