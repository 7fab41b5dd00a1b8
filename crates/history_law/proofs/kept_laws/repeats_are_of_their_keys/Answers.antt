use Rattle.history_law.proofs.Keying.{repeats_are_of_their_keys}
use Rattle.history_law.proofs.kept_laws.repeats_are_of_their_keys.Goals as goal

pub returns : goal.returns
returns c = repeats_are_of_their_keys
