use Rattle.std.proofs.Common.{◌≡◌, ◌<◌, ◌∙◌, length, get_or, subst, ap, sym, map}
use Rattle.value_core.specs.Datum.{elem_of}
use Rattle.decl_core.specs.ObjectMap.{object_of}
use Rattle.word_core.specs.Events.{body_at}
use Rattle.live_core.proofs.Forms.{replied, fits_same, reads_held}
use Rattle.live_core.proofs.body.do_call.Goals as goal

pub returns-in-Some-clause-reply : goal.returns-in-Some-clause-reply
returns-in-Some-clause-reply c =
    let a = c.in-Some.operation.now in
    let within : c.operation.result < length c.args.object.now.operations.items = subst (λ xs. c.operation.result < length xs) c.deref.ensures.value c.in-Some.ensures.lookup.3.0 in
    let is : a ≡ get_or c.args.object.now.operations.items c.operation.result a = subst (λ xs. a ≡ get_or xs c.operation.result a) c.deref.ensures.value (c.in-Some.ensures.lookup.3.1 a) in
    (replied c.args.object.now c.operation.result c.args.call.now.operation a within is c.operation.ensures c.deref-in-Some.result.now c.deref-in-Some.ensures c.arguments.result.now c.args.call.now.arguments c.arguments.ensures
    c.args.parts.now.items c.reply_of.new.parts.items c.reply_of.result c.reply_of.ensures.given).given

pub returns-in-Some-clause-parts : goal.returns-in-Some-clause-parts
returns-in-Some-clause-parts c =
    let a = c.in-Some.operation.now in
    let within : c.operation.result < length c.args.object.now.operations.items = subst (λ xs. c.operation.result < length xs) c.deref.ensures.value c.in-Some.ensures.lookup.3.0 in
    let is : a ≡ get_or c.args.object.now.operations.items c.operation.result a = subst (λ xs. a ≡ get_or xs c.operation.result a) c.deref.ensures.value (c.in-Some.ensures.lookup.3.1 a) in
    (replied c.args.object.now c.operation.result c.args.call.now.operation a within is c.operation.ensures c.deref-in-Some.result.now c.deref-in-Some.ensures c.arguments.result.now c.args.call.now.arguments c.arguments.ensures
    c.args.parts.now.items c.reply_of.new.parts.items c.reply_of.result c.reply_of.ensures.given).left

pub reply_of-requires-clause-fits : goal.reply_of-requires-clause-fits
reply_of-requires-clause-fits c =
    let a = c.in-Some.operation.now in
    let within : c.operation.result < length c.args.object.now.operations.items = subst (λ xs. c.operation.result < length xs) c.deref.ensures.value c.in-Some.ensures.lookup.3.0 in
    let is : a ≡ get_or c.args.object.now.operations.items c.operation.result a = subst (λ xs. a ≡ get_or xs c.operation.result a) c.deref.ensures.value (c.in-Some.ensures.lookup.3.1 a) in
    let o = object_of c.args.object.now in
    ap (map elem_of) c.arguments.ensures ∙ c.requires.call.fit ∙ ap (λ k. (body_at o k).params) (sym c.operation.ensures)
    ∙ fits_same c.args.object.now c.operation.result a within is c.deref-in-Some.result.now c.deref-in-Some.ensures

pub reply_of-requires-clause-held : goal.reply_of-requires-clause-held
reply_of-requires-clause-held c =
    let a = c.in-Some.operation.now in
    let within : c.operation.result < length c.args.object.now.operations.items = subst (λ xs. c.operation.result < length xs) c.deref.ensures.value c.in-Some.ensures.lookup.3.0 in
    let is : a ≡ get_or c.args.object.now.operations.items c.operation.result a = subst (λ xs. a ≡ get_or xs c.operation.result a) c.deref.ensures.value (c.in-Some.ensures.lookup.3.1 a) in
    reads_held c.args.object.now c.operation.result a within is c.deref-in-Some.result.now c.deref-in-Some.ensures c.args.parts.now.items c.requires.held
