use Rattle.std.proofs.Common.{subst}
use Rattle.decl_core.specs.ObjectMap.{object_of}
use Rattle.check_core.specs.Report.{IsReported, accepted, accepted_lines}
use Rattle.check_core.proofs.report.push_object.Goals as goal

pub returns-in_ok-push_accepted-in-Ok : goal.returns-in_ok-push_accepted-in-Ok
returns-in_ok-push_accepted-in-Ok c =
    let told = c.in_ok-push_accepted-in-Ok.ensures in
    let lines = accepted_lines (object_of c.in-Ok.accepted) told.0 in
    (lines, told.3, subst (λ o. IsReported (object_of o) 0 lines) c.in-Ok.ensures.same (accepted told.2 told.1))
