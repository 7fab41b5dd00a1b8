use Rattle.known_core.proofs.Courses.{one_answer}
use Rattle.known_core.proofs.laws.one_answer.Goals as goal

pub returns : goal.returns
returns c = one_answer
