use Rattle.decl_core.specs.ObjectMap.{object_of}
use Rattle.front_read.specs.Fault.{carried_breaks}
use Rattle.front_read.proofs.Whole.{calls_take}
use Rattle.front_read.proofs.read.take_calls.Goals as goal

pub returns-in_ok-found-in-Ok : goal.returns-in_ok-found-in-Ok
returns-in_ok-found-in-Ok c =
    calls_take (object_of c.args.object.now) c.args.text.now c.in-Ok.rest.now c.take_all_carried.new.out.items c.take_clients.new.clients.items c.take_clients.new.kept.items c.in_ok-found-in-Ok.found c.requires.named (rw c.in-Ok.is at c.in_ok-rest.ensures) c.in_ok-found-in-Ok.ensures

pub returns-in-Err : goal.returns-in-Err
returns-in-Err c = carried_breaks (rw c.in-Err.is at c.in_ok-rest.ensures)
