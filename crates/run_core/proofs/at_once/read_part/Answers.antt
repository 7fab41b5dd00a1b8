use Rattle.std.proofs.Common.{Err, ap}
use Rattle.run_core.proofs.MadeAtOnce.{fault_of_device, err_so}
use Rattle.apply_core.specs.declared.reply.Failure.TheVariants as failures
use Rattle.run_core.proofs.at_once.read_part.Goals as goal

pub returns-in-Ok-take-clause-found : goal.returns-in-Ok-take-clause-found
returns-in-Ok-take-clause-found g c = λ a agrees whole before. c.in-Ok-take.ensures.found a whole (c.in-Ok.ensures.found a agrees) before

pub returns-in-Err-Damaged-clause-damaged : goal.returns-in-Err-Damaged-clause-damaged
returns-in-Err-Damaged-clause-damaged g c = λ is a agrees whole. c.in-Err-Damaged.ensures.damaged (ap Err c.in-Err-Damaged.field-0-is) a whole (c.in-Ok.ensures.found a agrees)

pub returns-in-Err-clause-in_order : goal.returns-in-Err-clause-in_order
returns-in-Err-clause-in_order g c = λ always served is. c.in-Err.ensures.in_order always served (fault_of_device c.in-Err.fault c.failure.result c.failure.ensures (err_so {X = Unit {0}} c.failure.result failures.Device is))
