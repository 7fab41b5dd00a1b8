use Rattle.history_law.proofs.Sound.{epochs_are_sound}
use Rattle.history_law.proofs.year_laws.epochs_are_sound.Goals as goal

pub returns : goal.returns
returns c = epochs_are_sound
