use Rattle.std.proofs.Common.{sym, subst}
use Rattle.std.specs.Map.{values_of}
use Rattle.decl_core.specs.ObjectMap.{objects_of}
use Rattle.check_core.proofs.Reports.{told_fault}
use Rattle.check_core.specs.Judging.{IsUnserved, faulty}
use Rattle.check_core.proofs.Sorting.{judged_source}
use Rattle.check_core.proofs.judge.judge.Goals as goal

pub returns-in_ok-judged-in-Ok : goal.returns-in_ok-judged-in-Ok
returns-in_ok-judged-in-Ok c = judged_source c.args.source.now (objects_of (values_of c.in-Ok.all.entries)) c.in_ok-judged-in-Ok.judged c.in-Ok.ensures.found c.in_ok-judged-in-Ok.ensures

pub returns-in_ok-text-in-Err : goal.returns-in_ok-text-in-Err
returns-in_ok-text-in-Err c =
    let told = c.in_ok-text-in-Err.ensures in
    let fault = c.in-Err.ensures in
    subst (IsUnserved c.args.source.now) (sym told.1) (faulty (told_fault _ _ told.0 fault.only fault.too_long fault.lexical))
