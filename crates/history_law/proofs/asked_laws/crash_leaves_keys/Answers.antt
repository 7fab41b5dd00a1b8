use Rattle.history_law.proofs.AskedKeying.{crash_leaves_keys}
use Rattle.history_law.proofs.asked_laws.crash_leaves_keys.Goals as goal

pub returns : goal.returns
returns c = crash_leaves_keys
