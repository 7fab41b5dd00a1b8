use Rattle.decl_core.specs.HoldMap.{rules_of}
use Rattle.check_core.proofs.HeldReports.{kept_told}
use Rattle.check_core.proofs.hold_report.push_kept.Goals as goal

pub returns : goal.returns
returns c =
    kept_told c.object.result.now c.args.accepted.now (rules_of c.args.rules.now) c.args.out.now.items c.push_accepted.new.out.items c.push_rules.new.out.items c.object.ensures.same c.in_ok-push_accepted.ensures c.in_ok-push_rules.ensures
