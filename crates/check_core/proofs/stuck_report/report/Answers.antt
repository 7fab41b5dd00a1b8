use Rattle.std.specs.Map.{values_of}
use Rattle.check_core.proofs.Reports.{told_fault}
use Rattle.check_core.proofs.Said.{check_counted, check_faulty}
use Rattle.check_core.proofs.stuck_report.report.Goals as goal

pub returns-in_ok-report-in-Ok : goal.returns-in_ok-report-in-Ok
returns-in_ok-report-in-Ok c =
    let told = c.in_ok-report-in-Ok.ensures in
    check_counted _ (values_of c.in-Ok.all.entries) told.0 told.1 _ _ _ c.in-Ok.ensures.found told.2 told.3 told.4

pub returns-in_ok-report-in-Err : goal.returns-in_ok-report-in-Err
returns-in_ok-report-in-Err c =
    let told = c.in_ok-report-in-Err.ensures in
    let fault = c.in-Err.ensures in
    check_faulty _ c.in-Err.fault _ _ _ (told_fault _ _ told.0 fault.only fault.too_long fault.lexical) told.1 told.2 told.3
