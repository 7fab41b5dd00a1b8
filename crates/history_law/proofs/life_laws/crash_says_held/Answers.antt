use Rattle.history_law.proofs.LifeReading.{crash_says_held}
use Rattle.history_law.proofs.life_laws.crash_says_held.Goals as goal

pub returns : goal.returns
returns c = crash_says_held c.held_are_lines.ensures
