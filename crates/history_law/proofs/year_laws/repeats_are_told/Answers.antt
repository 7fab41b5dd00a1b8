use Rattle.history_law.proofs.Keyed.{repeats_are_told}
use Rattle.history_law.proofs.year_laws.repeats_are_told.Goals as goal

pub returns : goal.returns
returns c = repeats_are_told
