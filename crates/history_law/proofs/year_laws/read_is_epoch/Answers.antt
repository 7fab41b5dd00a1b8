use Rattle.history_law.proofs.Reading.{read_is_epoch}
use Rattle.history_law.proofs.year_laws.read_is_epoch.Goals as goal

pub returns : goal.returns
returns c = read_is_epoch
