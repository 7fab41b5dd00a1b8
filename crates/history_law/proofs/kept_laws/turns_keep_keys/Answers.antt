use Rattle.history_law.proofs.Keying.{turns_keep_keys}
use Rattle.history_law.proofs.kept_laws.turns_keep_keys.Goals as goal

pub returns : goal.returns
returns c = turns_keep_keys
