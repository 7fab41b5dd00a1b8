use Rattle.history_law.proofs.Keeping.{read_have_keys}
use Rattle.history_law.proofs.keyed_laws.read_have_keys.Goals as goal

pub returns : goal.returns
returns c = read_have_keys
