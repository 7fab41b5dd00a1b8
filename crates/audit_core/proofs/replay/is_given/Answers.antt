use Rattle.std.proofs.Common.{◌≡◌, ◌<◌, length, get_or, refl, subst}
use Rattle.audit_core.specs.View.{told_view}
use Rattle.audit_core.proofs.Replaying.{tried_ok}
use Rattle.audit_core.proofs.replay.is_given.Goals as goal

pub returns-in-Some : goal.returns-in-Some
returns-in-Some c =
    let object = c.args.object.now in
    let place = c.args.running.now.operation in
    let a = c.in-Some.operation.now in
    let within : place < length object.operations.items = subst (λ xs. place < length xs) c.deref.ensures.value c.in-Some.ensures.lookup.3.0 in
    let is : a ≡ get_or object.operations.items place a = subst (λ xs. a ≡ get_or xs place a) c.deref.ensures.value (c.in-Some.ensures.lookup.3.1 a) in
    tried_ok object place a within is c.deref-in-Some.result.now c.deref-in-Some-2.result.now c.args.running.now (told_view c.args.told.now) c.args.parts.now.items c.is_done_so.new.parts.items c.is_done_so.result
    c.deref-in-Some.ensures c.deref-in-Some-2.ensures.value refl c.requires c.is_done_so.ensures
