use Rattle.std.proofs.Common.{sym}
use Rattle.decl_core.specs.HoldMap.{all_rules_of}
use Rattle.check_core.proofs.HeldReports.{check_counted}
use Rattle.check_core.proofs.hold_report.held_report.Goals as goal

pub returns : goal.returns
returns c =
    let r = c.in_ok-report.ensures in
    check_counted c.args.objects.items (all_rules_of c.args.rules.now) r.0 _ r.1 _ _ r.2 (sym c.requires) r.3 r.4
