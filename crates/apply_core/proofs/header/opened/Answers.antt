use Rattle.apply_core.proofs.Shapes.{opened_is, no_header}
use Rattle.apply_core.proofs.header.opened.Goals as goal

pub returns-in-Some : goal.returns-in-Some
returns-in-Some c = opened_is c.args.bytes.now c.in-Some.rest.now c.in-Some.field-0-0 c.in-Some.count c.in-Some.ensures.some.0 c.in-Some.ensures.some.1

pub returns-in-None : goal.returns-in-None
returns-in-None c = λ k v is. absurd (no_header c.args.bytes.now c.in-None.ensures.none k v is)
