use Rattle.std.proofs.Common.{sym, ap}
use Rattle.std.specs.Prelude.{is_some}
use Rattle.value_core.proofs.Placing.{there, missing}
use Rattle.value_core.proofs.sorted.Sorted.has.Goals as goal

pub returns-in-Ok : goal.returns-in-Ok
returns-in-Ok g c = sym (there _ _ _ c.in-Ok.ensures.found)

pub returns-in-Err : goal.returns-in-Err
returns-in-Err g c = sym (ap is_some (missing _ _ _ c.in-Err.ensures.gap))
