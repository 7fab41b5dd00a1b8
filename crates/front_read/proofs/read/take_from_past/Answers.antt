use Rattle.decl_core.specs.ObjectMap.{object_of}
use Rattle.front_read.specs.Fault.{past_breaks}
use Rattle.front_read.proofs.Whole.{past_takes}
use Rattle.front_read.proofs.read.take_from_past.Goals as goal

pub returns-in_ok-found-in-Ok : goal.returns-in_ok-found-in-Ok
returns-in_ok-found-in-Ok c =
    past_takes (object_of c.args.object.now) c.args.text.now c.in-Ok.rest.now c.take_past.new.out.items c.take_from_base.new.carried.items c.take_from_base.new.clients.items c.take_from_base.new.kept.items c.in_ok-found-in-Ok.found c.requires.named (rw c.in-Ok.is at c.in_ok-rest.ensures) c.in_ok-found-in-Ok.ensures

pub returns-in-Err : goal.returns-in-Err
returns-in-Err c = past_breaks (rw c.in-Err.is at c.in_ok-rest.ensures)
