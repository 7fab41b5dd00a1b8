use Rattle.std.proofs.Common.{subst, sym}
use Rattle.session_core.specs.Written.{HasWritten}
use Rattle.session_core.proofs.Saying.{wrote}
use Rattle.session_core.proofs.end.conclude.Goals as goal

pub returns-clause-written : goal.returns-clause-written
returns-clause-written c = λ start now is. subst (HasWritten start now c.args.receipts.now) (sym c.fault_of.ensures)
    (wrote c.is_accounted-accounted.result c.args.health c.args.heard start now c.args.notes.now c.args.receipts.now c.is_accounted-accounted.ensures.0 is)

pub returns-clause-caused : goal.returns-clause-caused
returns-clause-caused c = (c.is_accounted-accounted.result, c.is_accounted-accounted.ensures, c.fault_of.ensures)
