use Rattle.std.proofs.Common.{◌∙◌, subst}
use Rattle.std.specs.Map.{values_of}
use Rattle.std.proofs.lemmas.Map.Iter.{rest_more, rest_all}
use Rattle.check_core.proofs.Sorting.{IsSorted, sorted_none, sorted_more, sorted_all}
use Rattle.check_core.proofs.judge.sort_all.Goals as goal

pub loop-object-init : goal.loop-object-init
loop-object-init c = sorted_none _ _ _ _ (c.into_iter-object-iterator.ensures.into_iter_gives ∙ c.into_values-object-items.ensures.rest) c.new.ensures.items c.new-2.ensures.items

pub loop-object-preserved : goal.loop-object-preserved
loop-object-preserved c =
    let rest = rest_more (λ o. o) _ _ _ _ c.in-Some.is c.next.ensures.steps in
    sorted_more _ _ _ _ _ c.in-Some.object _ _ c.loop-object.invariant rest c.in_ok-add.ensures

pub returns : goal.returns
returns c =
    let none = rest_all (λ o. o) _ _ _ c.in-None.is c.next.ensures.steps in
    sorted_all _ _ _ (subst (λ r. IsSorted (values_of c.args.all.entries) r c.loop-object.sorted.ready.items c.loop-object.sorted.told.items) none c.loop-object.invariant)
