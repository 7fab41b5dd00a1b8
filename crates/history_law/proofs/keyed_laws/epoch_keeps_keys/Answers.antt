use Rattle.history_law.proofs.Keeping.{epoch_keeps_keys}
use Rattle.history_law.proofs.keyed_laws.epoch_keeps_keys.Goals as goal

pub returns : goal.returns
returns c = epoch_keeps_keys
