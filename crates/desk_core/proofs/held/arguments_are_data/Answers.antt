use Rattle.std.proofs.Common.{◌≤◌, length, ap, ◌∙◌, arith}
use Rattle.std.specs.Prelude.{slice_get}
use Rattle.value_core.specs.Datum.{IsDatum}
use Rattle.decl_core.specs.declared.object.Operation.{Operation}
use Rattle.desk_core.proofs.Looked.{next, as_many, are_all, all_of}
use Rattle.desk_core.proofs.held.arguments_are_data.Goals as goal

pub loop-place-preserved : goal.loop-place-preserved
loop-place-preserved c =
    next IsDatum c.args.call.now.arguments c.loop-place.place c.loop-place.invariant
    (λ x is. c.argument_is_datum.ensures x (ap (λ xs. slice_get xs c.loop-place.place) c.args-in-loop-place.ensures ∙ is))

pub returns : goal.returns
returns c =
    let many = as_many c.args.call.now.operation c.args.call.now.arguments c.requires in
    let same = ap (λ (o : Operation). length o.params.items) (c.deref.ensures ∙ c.operation.ensures) in
    let few : length c.args.call.now.arguments ≤ c.loop-place.place = omega (arith, many, same, c.len-place-end.ensures, c.loop-place-test.false) in
    all_of IsDatum c.args.call.now.arguments (are_all IsDatum c.args.call.now.arguments c.loop-place.place few c.loop-place.invariant)
