use Rattle.check_core.specs.StuckReport.{refused}
use Rattle.check_core.proofs.stuck_report.push_refused.Goals as goal

pub returns-in_ok-push_unseparated-in-Unseparated :
    goal.returns-in_ok-push_unseparated-in-Unseparated
returns-in_ok-push_unseparated-in-Unseparated c =
    (_, c.in_ok-push_unseparated-in-Unseparated.ensures, refused (rw c.in-Unseparated.is at c.requires))
