use Rattle.std.proofs.Common.{arith}
use Rattle.std.proofs.lemmas.Bool.{false≢true}
use Rattle.decl_core.specs.ObjectMap.{object_of}
use Rattle.decl_core.proofs.Certified.{certificate_is, nothing_left, operations_counted}
use Rattle.decl_core.proofs.uncalled.check_certificate.Goals as goal

pub returns-in-None : goal.returns-in-None
returns-in-None c =
    let o = object_of c.args.object.now in
    (λ h. absurd (false≢true h), λ h. absurd (c.in-None.ensures (c.loop-first.invariant.0 ((certificate_is o c.args.certificate.now.entries.items).0 h))))

pub returns : goal.returns
returns c =
    let o = object_of c.args.object.now in
    nothing_left o c.loop-first.first (omega (arith, operations_counted c.args.object.now)) c.args.certificate.now.entries.items c.loop-first.rest.now
    c.loop-first.invariant c.is_empty.result c.is_empty.ensures
