use Rattle.std.proofs.Common.{◌≡◌, ◌<◌, ◌++◌, length, sym, ap, ◌∙◌, subst, map}
use Rattle.std.specs.Prelude.{Some}
use Rattle.std.specs.Arc.{arc_value}
use Rattle.std.proofs.lemmas.Bool.{false≢true}
use Rattle.path_tree.specs.Known.{place_of}
use Rattle.decl_core.specs.declared.object.Operation.{Operation}
use Rattle.decl_core.specs.declared.object.Param.{Param}
use Rattle.decl_core.specs.ObjectMap.{object_of, operations_of}
use Rattle.word_core.specs.Events.{body_at}
use Rattle.front_read.specs.Calls.{operation_in}
use Rattle.decl_core.specs.HoldForm.{reply_sorts}
use Rattle.recover_core.specs.HeldSo.{IsHeldBy}
use Rattle.recover_core.proofs.Named.{held_with_is, place_once}
use Rattle.recover_core.proofs.read.rule_for.Goals as goal

pub returns-then-are_held_with : goal.returns-then-are_held_with
returns-then-are_held_with c =
    let o = object_of c.args.object.now in
    let k = c.in_ok-place.place in
    let ops = c.args.object.now.operations.items in
    let a = c.index-operation.result.now in
    let found : operation_in o c.args.name.now ≡ Some k = sym (subst (λ xs. Some k ≡ place_of (map (λ f. f.name) (operations_of xs)) c.args.name.now) c.deref.ensures.value c.in_ok-place.ensures.place) in
    let within : k < length ops = subst (λ xs. k < length xs) c.deref.ensures.value c.in_ok-place.ensures.within in
    let params = c.deref-3.ensures.value ∙ ap (λ (x : Operation). x.params.items) c.deref-2.ensures in
    let both : map (λ (p : Param). p.kind) c.deref-3.result.now ++ reply_sorts c.deref-4.result.now.result ≡ (body_at o k).params ++ reply_sorts (body_at o k).result =
    ap (λ ps. map (λ (p : Param). p.kind) ps ++ reply_sorts c.deref-4.result.now.result) params ∙ ap (λ (x : Operation). map (λ (p : Param). p.kind) (arc_value a).params.items ++ reply_sorts x.result) c.deref-4.ensures ∙ held_with_is ops k a within c.index-operation.ensures in
    (k, found, sym c.in_ok-rule.ensures.value, c.are_held_with.ensures.0 c.if-are_held_with.true ∙ both)

pub returns : goal.returns
returns c = λ op r is rule by.
    let o = object_of c.args.object.now in
    let k = c.in_ok-place.place in
    let ops = c.args.object.now.operations.items in
    let a = c.index-operation.result.now in
    let found : operation_in o c.args.name.now ≡ Some k = sym (subst (λ xs. Some k ≡ place_of (map (λ f. f.name) (operations_of xs)) c.args.name.now) c.deref.ensures.value c.in_ok-place.ensures.place) in
    let within : k < length ops = subst (λ xs. k < length xs) c.deref.ensures.value c.in_ok-place.ensures.within in
    let params = c.deref-3.ensures.value ∙ ap (λ (x : Operation). x.params.items) c.deref-2.ensures in
    let both : map (λ (p : Param). p.kind) c.deref-3.result.now ++ reply_sorts c.deref-4.result.now.result ≡ (body_at o k).params ++ reply_sorts (body_at o k).result =
    ap (λ ps. map (λ (p : Param). p.kind) ps ++ reply_sorts c.deref-4.result.now.result) params ∙ ap (λ (x : Operation). map (λ (p : Param). p.kind) (arc_value a).params.items ++ reply_sorts x.result) c.deref-4.ensures ∙ held_with_is ops k a within c.index-operation.ensures in
    let same = place_once (operation_in o c.args.name.now) k op found is in
    let held : IsHeldBy o k c.args.values.now = subst (λ p. IsHeldBy o p c.args.values.now) (sym same) by in
    false≢true (sym c.if-are_held_with.false ∙ c.are_held_with.ensures.1 (held ∙ sym both))
