use Rattle.history_law.proofs.Cut.{cut}
use Rattle.history_law.proofs.crash_laws.front_is_sound.Goals as goal

pub returns : goal.returns
returns c = cut
