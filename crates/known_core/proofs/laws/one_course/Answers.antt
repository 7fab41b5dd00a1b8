use Rattle.known_core.proofs.Courses.{one_course}
use Rattle.known_core.proofs.laws.one_course.Goals as goal

pub returns : goal.returns
returns c = one_course
