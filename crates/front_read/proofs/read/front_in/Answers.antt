use Rattle.std.proofs.Common.{refl}
use Rattle.front_read.specs.Fault.{no_source}
use Rattle.decl_core.specs.ObjectMap.{object_of}
use Rattle.front_read.proofs.Whole.{source_more_ok}
use Rattle.front_read.proofs.read.front_in.Goals as goal

pub returns-in-Some : goal.returns-in-Some
returns-in-Some c = source_more_ok (object_of c.args.object.now) c.args.epoch c.in-Some.source c.args.text.now c.in-Some.rest.now c.front_of.result (rw c.in-Some.is at c.in_ok-source.ensures) c.front_of.ensures

pub returns-in-None : goal.returns-in-None
returns-in-None c = no_source (rw c.in-None.is at c.in_ok-source.ensures) refl
