use Rattle.std.proofs.Common.{◌≡◌, ◌<◌, length, sym, ◌∙◌, subst, map}
use Rattle.std.specs.Prelude.{Some}
use Rattle.std.specs.Arc.{arc_value}
use Rattle.std.proofs.lemmas.Bool.{false≢true}
use Rattle.apply_core.specs.Fits.{ArgumentsFit}
use Rattle.path_tree.specs.Known.{place_of}
use Rattle.decl_core.specs.ObjectMap.{object_of, operations_of}
use Rattle.front_read.specs.Calls.{operation_in}
use Rattle.front_read.proofs.Forms.{fits_at, fit_elsewhere, place_once, first_of}
use Rattle.front_read.proofs.call.operation_for.Goals as goal

pub returns-then-arguments_fit : goal.returns-then-arguments_fit
returns-then-arguments_fit c =
    let o = object_of c.args.object.now in
    let k = c.in_ok-place.place in
    let ops = c.args.object.now.operations.items in
    let found : operation_in o c.args.name.now ≡ Some k = sym (subst (λ xs. Some k ≡ place_of (map (λ f. f.name) (operations_of xs)) c.args.name.now) c.deref.ensures.value c.in_ok-place.ensures.place) in
    let within : k < length ops = subst (λ xs. k < length xs) c.deref.ensures.value c.in_ok-place.ensures.within in
    let fit : ArgumentsFit (arc_value c.index.result.now) c.args.arguments.now = subst (λ x. ArgumentsFit x c.args.arguments.now) c.deref-2.ensures (c.arguments_fit.ensures.0 c.if-arguments_fit.true) in
    (found, (first_of o c.args.name.now k found).0, fits_at ops k c.index.result.now c.args.arguments.now within c.index.ensures fit)

pub returns : goal.returns
returns c = λ op is fits.
    let o = object_of c.args.object.now in
    let k = c.in_ok-place.place in
    let ops = c.args.object.now.operations.items in
    let found : operation_in o c.args.name.now ≡ Some k = sym (subst (λ xs. Some k ≡ place_of (map (λ f. f.name) (operations_of xs)) c.args.name.now) c.deref.ensures.value c.in_ok-place.ensures.place) in
    let within : k < length ops = subst (λ xs. k < length xs) c.deref.ensures.value c.in_ok-place.ensures.within in
    let same = place_once (operation_in o c.args.name.now) k op found is in
    let fit = fit_elsewhere ops k op c.index.result.now c.args.arguments.now within c.index.ensures same fits in
    false≢true (sym c.if-arguments_fit.false ∙ c.arguments_fit.ensures.1 (subst (λ x. ArgumentsFit x c.args.arguments.now) (sym c.deref-2.ensures) fit))
