use Rattle.std.proofs.Common.{inl}
use Rattle.std.specs.Map.{values_of}
use Rattle.check_core.proofs.Reports.{check_counted, check_faulty, count_only, told_fault}
use Rattle.check_core.proofs.report.report.Goals as goal

pub returns-in_ok-report-in-Ok-clause-is : goal.returns-in_ok-report-in-Ok-clause-is
returns-in_ok-report-in-Ok-clause-is c =
    let told = c.in_ok-report-in-Ok.ensures in
    check_counted _ (values_of c.in-Ok.all.entries) told.0 told.1 _ _ c.in-Ok.ensures.found told.2 told.3 told.4

pub returns-in_ok-report-in-Ok-clause-only : goal.returns-in_ok-report-in-Ok-clause-only
returns-in_ok-report-in-Ok-clause-only c objects are =
    let told = c.in_ok-report-in-Ok.ensures in
    (told.0, count_only (values_of c.in-Ok.all.entries) objects told.0 _ told.3 (c.in-Ok.ensures.only objects are))

pub returns-in_ok-report-in-Err-clause-is : goal.returns-in_ok-report-in-Err-clause-is
returns-in_ok-report-in-Err-clause-is c =
    let told = c.in_ok-report-in-Err.ensures in
    let fault = c.in-Err.ensures in
    check_faulty _ c.in-Err.fault _ _ (told_fault _ _ told.0 fault.only fault.too_long fault.lexical) told.1 told.2

pub returns-in_ok-report-in-Err-clause-only : goal.returns-in_ok-report-in-Err-clause-only
returns-in_ok-report-in-Err-clause-only c objects are =
    absurd (c.in_ok-report-in-Err.ensures.0 (inl (c.in-Err.ensures.only objects are)))
