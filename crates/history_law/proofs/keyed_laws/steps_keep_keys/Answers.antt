use Rattle.history_law.proofs.Keeping.{steps_keep_keys}
use Rattle.history_law.proofs.keyed_laws.steps_keep_keys.Goals as goal

pub returns : goal.returns
returns c = steps_keep_keys
