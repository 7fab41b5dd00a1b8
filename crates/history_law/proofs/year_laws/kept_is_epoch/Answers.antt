use Rattle.history_law.proofs.Sound.{kept_is_epoch}
use Rattle.history_law.proofs.year_laws.kept_is_epoch.Goals as goal

pub returns : goal.returns
returns c = kept_is_epoch
