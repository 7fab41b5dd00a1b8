use Rattle.std.proofs.Common.{◌<◌, ◌^◌, length, ap, arith, refl, ◌∙◌}
use Rattle.std.specs.Map.{values_of}
use Rattle.std.proofs.lemmas.Map.Iter.{rest_more}
use Rattle.check_core.proofs.Said.{told_none, told_more, count_fits}
use Rattle.check_core.proofs.stuck_report.report_objects.Goals as goal

pub loop-object-init : goal.loop-object-init
loop-object-init c =
    told_none _ _ _ (c.into_iter-object-iterator.ensures.into_iter_gives ∙ c.into_values-object-items.ensures.rest) c.new-text.ensures.items

pub overflow_add-refused : goal.overflow_add-refused
overflow_add-refused c =
    let one = c.in_ok-said.ensures in
    let values = c.into_values-object-items.ensures in
    let few : length (values_of c.args.all.entries) < 2 ^ 63 = omega (arith, values.fits, values.len, ap length values.rest) in
    omega (arith, count_fits _ _ c.in-Some.object _ _ _ _ _ _ c.loop-object.invariant one.2 few)

pub loop-object-preserved : goal.loop-object-preserved
loop-object-preserved c =
    let one = c.in_ok-said.ensures in
    let rest = rest_more (λ o. o) _ _ _ _ c.in-Some.is c.next.ensures.steps in
    told_more _ _ _ c.in-Some.object _ _ _ _ _ _ _ one.0 _ c.loop-object.invariant rest one.2 one.1 refl c.either-lost.ensures
