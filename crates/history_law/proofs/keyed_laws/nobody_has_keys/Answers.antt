use Rattle.history_law.proofs.Keeping.{nobody_has_keys}
use Rattle.history_law.proofs.keyed_laws.nobody_has_keys.Goals as goal

pub returns : goal.returns
returns c = nobody_has_keys
