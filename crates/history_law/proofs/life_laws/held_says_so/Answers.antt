use Rattle.history_law.proofs.LifeEnding.{held_says_so}
use Rattle.history_law.proofs.life_laws.held_says_so.Goals as goal

pub returns : goal.returns
returns c = held_says_so c.held_are_lines.ensures
