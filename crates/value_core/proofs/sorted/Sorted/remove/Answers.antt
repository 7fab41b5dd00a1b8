use Rattle.std.proofs.Common.{sym, ap, subst, ◌∙◌}
use Rattle.std.specs.BTreeMap.{is_at}
use Rattle.std.specs.Map.{remove_entry}
use Rattle.value_core.specs.TextOrder.{text_cmp}
use Rattle.value_core.specs.Sorted.{Rise, StandsAt}
use Rattle.value_core.proofs.Placing.{removed, not_removed, rise_removed}
use Rattle.value_core.proofs.sorted.Sorted.remove.Goals as goal

pub invariant_of-self : goal.invariant_of-self
invariant_of-self g c =
    let at = subst (λ es. StandsAt es c.args.key.now c.in-Ok.place) (sym c.self.view_is) c.in-Ok.ensures.found in
    subst Rise (sym (c.remove-row.ensures.items ∙ removed _ _ _ at)) (rise_removed _ _ c.self.invariant)

pub returns-in-Ok-clause-rows : goal.returns-in-Ok-clause-rows
returns-in-Ok-clause-rows g c =
    let at = subst (λ es. StandsAt es c.args.key.now c.in-Ok.place) (sym c.self.view_is) c.in-Ok.ensures.found in
    c.remove-row.ensures.items ∙ removed _ _ _ at ∙ ap (remove_entry (is_at (text_cmp c.args.key.now))) c.self.view_is

pub returns-in-Ok-clause-still : goal.returns-in-Ok-clause-still
returns-in-Ok-clause-still g c =
    let at = subst (λ es. StandsAt es c.args.key.now c.in-Ok.place) (sym c.self.view_is) c.in-Ok.ensures.found in
    subst Rise (sym (c.remove-row.ensures.items ∙ removed _ _ _ at)) (rise_removed _ _ c.self.invariant)

pub returns-in_default-clause-rows : goal.returns-in_default-clause-rows
returns-in_default-clause-rows g c = not_removed _ _ _ c.in_default.ensures.gap
