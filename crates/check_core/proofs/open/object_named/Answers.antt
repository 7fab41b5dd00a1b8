use Rattle.std.proofs.Common.{◌∙◌}
use Rattle.std.proofs.lemmas.Map.Iter.{rest_more, rest_all}
use Rattle.check_core.proofs.Looking.{looked_none, looked_more, looked_all, looked_found}
use Rattle.check_core.proofs.open.object_named.Goals as goal

pub loop-object-init : goal.loop-object-init
loop-object-init c = looked_none _ _ _ (c.into_iter-object-iterator.ensures.into_iter_gives ∙ c.into_values-object-items.ensures.rest)

pub returns-then-is_named : goal.returns-then-is_named
returns-then-is_named c =
    let rest = rest_more (λ o. o) _ _ _ _ c.in-Some.is c.next.ensures.steps in
    (looked_found _ _ _ c.in-Some.object _ c.loop-object.invariant rest, c.is_named.ensures.0 c.if-is_named.true)

pub loop-object-preserved : goal.loop-object-preserved
loop-object-preserved c =
    let rest = rest_more (λ o. o) _ _ _ _ c.in-Some.is c.next.ensures.steps in
    looked_more _ _ _ c.in-Some.object _ c.loop-object.invariant rest (λ e. let h = c.is_named.ensures.1 e in let no = c.if-is_named.false in cc)

pub returns : goal.returns
returns c = looked_all _ _ _ c.loop-object.invariant (rest_all (λ o. o) _ _ _ c.in-None.is c.next.ensures.steps)
