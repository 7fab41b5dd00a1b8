use Rattle.std.proofs.Common.{ap, subst}
use Rattle.front_read.specs.Fault.{StuckParts, parts_stuck}
use Rattle.decl_core.specs.ObjectMap.{object_of, parts_of}
use Rattle.front_read.proofs.Whole.{front_more_ok, all_parts}
use Rattle.front_read.proofs.read.front_of.Goals as goal

pub returns-in-Ok : goal.returns-in-Ok
returns-in-Ok c =
    let o = object_of c.args.object.now in
    front_more_ok o c.args.epoch c.args.source c.args.text.now c.in-Ok.rest.now c.take_parts.new.out.items c.front_with.result c.requires
    (all_parts o.parts (parts_of c.deref.result.now) c.args.text.now c.new-parts.result.items c.take_parts.new.out.items c.in-Ok.rest (rw c.in-Ok.is at c.in_ok-rest.ensures) (ap parts_of c.deref.ensures.value) c.new-parts.ensures.items)
    c.front_with.ensures

pub returns : goal.returns
returns c = parts_stuck (subst (λ ps. StuckParts ps c.args.text.now c.in-Err.rest.now) (ap parts_of c.deref.ensures.value) (rw c.in-Err.is at c.in_ok-rest.ensures))
