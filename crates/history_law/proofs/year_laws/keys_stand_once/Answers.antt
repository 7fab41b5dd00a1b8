use Rattle.history_law.proofs.Keyed.{keys_stand_once}
use Rattle.history_law.proofs.year_laws.keys_stand_once.Goals as goal

pub returns : goal.returns
returns c = keys_stand_once
