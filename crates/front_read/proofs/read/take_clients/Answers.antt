use Rattle.decl_core.specs.ObjectMap.{object_of}
use Rattle.front_read.specs.Fault.{client_breaks, kept_breaks}
use Rattle.front_read.proofs.Whole.{end_takes}
use Rattle.front_read.proofs.read.take_clients.Goals as goal

pub returns-in-Ok-2 : goal.returns-in-Ok-2
returns-in-Ok-2 c =
    end_takes (object_of c.args.object.now) c.args.text.now c.in-Ok.rest.now c.in-Ok-2.rest.now c.take_all_clients.new.out.items c.take_all_kept.new.out.items c.end_at.result c.requires.named (rw c.in-Ok.is at c.in_ok-rest.ensures) (rw c.in-Ok-2.is at c.in_ok-rest-in-Ok.ensures) c.end_at.ensures

pub returns-in-Err-2 : goal.returns-in-Err-2
returns-in-Err-2 c =
    let first = rw c.in-Ok.is at c.in_ok-rest.ensures in
    kept_breaks c.in-Ok.rest.now c.take_all_clients.new.out.items first.0 first.1 (rw c.in-Err-2.is at c.in_ok-rest-in-Ok.ensures)

pub returns-in-Err : goal.returns-in-Err
returns-in-Err c = client_breaks (rw c.in-Err.is at c.in_ok-rest.ensures)
