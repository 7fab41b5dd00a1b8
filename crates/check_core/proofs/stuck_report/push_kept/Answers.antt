use Rattle.check_core.proofs.Said.{kept_said}
use Rattle.check_core.proofs.stuck_report.push_kept.Goals as goal

pub returns : goal.returns
returns c =
    kept_said c.object.result.now c.args.accepted.now c.args.out.now.items c.push_accepted.new.out.items c.push_told.new.out.items c.in_ok-lost.lost c.object.ensures.same c.in_ok-push_accepted.ensures c.in_ok-lost.ensures
