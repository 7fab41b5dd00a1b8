use Rattle.std.proofs.Common.{subst, sym, inl, refl}
use Rattle.decl_core.specs.ObjectMap.{parts_of}
use Rattle.front_read.specs.Fault.{TakesParts, StuckParts}
use Rattle.front_read.proofs.Whole.{parts_more}
use Rattle.front_read.proofs.read.+take_parts.Goals as goal

pub returns-in_ok-found-in-Some-2 : goal.returns-in_ok-found-in-Some-2
returns-in_ok-found-in-Some-2 k c =
    let took = rw c.in-Some-2.is at c.in_ok-rest-in-Some.ensures in
    subst (λ ps. TakesParts (parts_of ps) c.args.text.now c.args.out.now.items c.in_ok-found-in-Some-2.found c.take_parts.new.out.items) (sym c.in-Some.ensures.cases.0)
    (parts_more (c.in-Some.part.now.name, c.in-Some.part.now.kind) (parts_of c.in-Some.parts.now) c.args.text.now c.in-Some-2.rest.now took.0 c.args.out.now.items c.take_part.new.out.items c.take_parts.new.out.items c.in_ok-found-in-Some-2.found c.as_bytes.ensures.name took.1 took.2 c.in_ok-found-in-Some-2.ensures)

pub returns-in-None-2 : goal.returns-in-None-2
returns-in-None-2 k c =
    subst (λ ps. StuckParts (parts_of ps) c.args.text.now c.args.text.now) (sym c.in-Some.ensures.cases.0)
    (inl (rw c.in-None-2.is at c.in_ok-rest-in-Some.ensures, refl))
