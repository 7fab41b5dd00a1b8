use Rattle.taken_core.proofs.Taking.{front_not, front_tests}
use Rattle.taken_core.proofs.checked.Checked.is_front_right.Goals as goal

pub returns-then-self : goal.returns-then-self
returns-then-self c done f same r = front_not done c.args.line.now c.args.self.now f c.if-self.true r

pub returns : goal.returns
returns c = front_tests c.is_written.result c.args.line.now c.args.size c.args.self.now c.if-self.false c.is_written.ensures
