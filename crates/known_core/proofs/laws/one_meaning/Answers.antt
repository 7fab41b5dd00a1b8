use Rattle.known_core.proofs.Courses.{one_meaning}
use Rattle.known_core.proofs.laws.one_meaning.Goals as goal

pub returns : goal.returns
returns c = one_meaning
