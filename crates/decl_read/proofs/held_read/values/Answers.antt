use Rattle.std.proofs.Common.{◌∙◌}
use Rattle.std.proofs.lemmas.Map.Iter.{rest_more, rest_all}
use Rattle.decl_read.proofs.Reading.{values_none, values_more, values_all}
use Rattle.decl_read.proofs.held_read.values.Goals as goal

pub loop-object-init : goal.loop-object-init
loop-object-init c = values_none _ _ _ (c.into_iter-object-iterator.ensures.into_iter_gives ∙ c.into_values-object-items.ensures.rest) c.new-objects.ensures.items

pub loop-object-preserved : goal.loop-object-preserved
loop-object-preserved c =
    let rest = rest_more (λ o. o) _ _ _ _ c.in-Some.is c.next.ensures.steps in
    values_more _ _ _ _ _ c.in-Some.object c.loop-object.invariant rest c.in-Ok.ensures.items

pub returns : goal.returns
returns c =
    let none = rest_all (λ o. o) _ _ _ c.in-None.is c.next.ensures.steps in
    values_all _ _ _ c.loop-object.invariant none
