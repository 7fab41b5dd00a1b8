use Rattle.std.proofs.Common.{refl}
use Rattle.front_read.specs.Fault.{no_base, calls_stuck}
use Rattle.front_read.proofs.read.take_from_base.Goals as goal

pub returns-in-Err : goal.returns-in-Err
returns-in-Err c = calls_stuck c.in-Some.rest.now c.in-Some.base (rw c.in-Some.is at c.in_ok-base.ensures) (rw c.in-Err.is at c.in_ok-rest-in-Some.ensures)

pub returns-in-None : goal.returns-in-None
returns-in-None c = no_base (rw c.in-None.is at c.in_ok-base.ensures) refl
