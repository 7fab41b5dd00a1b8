use Rattle.client_core.proofs.Starting.{left_others, left_steps}
use Rattle.client_core.proofs.start.leave_one.Goals as goal

pub returns-clause-steps : goal.returns-clause-steps
returns-clause-steps c = left_steps c.args.hosted.now c.leave.new.self c.args.session c.args.second c.leave.result c.leave.ensures.guests c.leave.ensures.left

pub returns-clause-others : goal.returns-clause-others
returns-clause-others c = left_others c.args.hosted.now c.leave.new.self c.args.session c.args.second c.leave.result c.leave.ensures.guests
