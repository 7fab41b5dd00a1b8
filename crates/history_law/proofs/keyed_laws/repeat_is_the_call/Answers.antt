use Rattle.history_law.proofs.Keeping.{repeat_is_the_call}
use Rattle.history_law.proofs.keyed_laws.repeat_is_the_call.Goals as goal

pub returns : goal.returns
returns c = repeat_is_the_call
