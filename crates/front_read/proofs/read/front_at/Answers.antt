use Rattle.std.proofs.Common.{refl}
use Rattle.front_read.specs.Fault.{no_object}
use Rattle.decl_core.specs.ObjectMap.{object_of}
use Rattle.front_read.proofs.Whole.{object_more_ok}
use Rattle.front_read.proofs.read.front_at.Goals as goal

pub returns-in-Some : goal.returns-in-Some
returns-in-Some c = object_more_ok (object_of c.args.object.now) c.in-Some.epoch c.args.text.now c.in-Some.rest.now c.front_in.result c.requires (rw c.in-Some.is at c.in_ok-epoch.ensures) c.front_in.ensures

pub returns-in-None : goal.returns-in-None
returns-in-None c = no_object (rw c.in-None.is at c.in_ok-epoch.ensures) refl
