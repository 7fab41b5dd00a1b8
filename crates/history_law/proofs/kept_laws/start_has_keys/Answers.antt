use Rattle.history_law.proofs.Keying.{start_has_keys}
use Rattle.history_law.proofs.kept_laws.start_has_keys.Goals as goal

pub returns : goal.returns
returns c = start_has_keys
