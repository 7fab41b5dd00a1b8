use Rattle.std.proofs.Common.{◌≡◌, get_or, Some, sym, ap, subst, ◌∙◌}
use Rattle.std.specs.BTreeMap.{is_at}
use Rattle.std.specs.Map.{remove_entry}
use Rattle.value_core.specs.TextOrder.{text_cmp}
use Rattle.value_core.specs.Sorted.{Rise, StandsAt}
use Rattle.value_core.proofs.Placing.{removed, rise_removed, found, missing}
use Rattle.value_core.proofs.Tables.{exact_texts}
use Rattle.value_core.proofs.Backs.{none_some}
use Rattle.value_core.proofs.sorted.Sorted.take_out.Goals as goal

pub invariant_of-self : goal.invariant_of-self
invariant_of-self g c =
    let at = subst (λ es. StandsAt es c.args.key.now c.in-Ok.place) (sym c.self.view_is) c.in-Ok.ensures.found in
    subst Rise (sym (c.remove.ensures.items ∙ removed _ _ _ at)) (rise_removed _ _ c.self.invariant)

pub returns-clause-rows : goal.returns-clause-rows
returns-clause-rows g c =
    let at = subst (λ es. StandsAt es c.args.key.now c.in-Ok.place) (sym c.self.view_is) c.in-Ok.ensures.found in
    c.remove.ensures.items ∙ removed _ _ _ at ∙ ap (remove_entry (is_at (text_cmp c.args.key.now))) c.self.view_is

pub returns-clause-still : goal.returns-clause-still
returns-clause-still g c =
    let at = subst (λ es. StandsAt es c.args.key.now c.in-Ok.place) (sym c.self.view_is) c.in-Ok.ensures.found in
    subst Rise (sym (c.remove.ensures.items ∙ removed _ _ _ at)) (rise_removed _ _ c.self.invariant)

pub unreachable-requires : goal.unreachable-requires
unreachable-requires g c = none_some _ c.requires (missing _ _ _ c.in-Err.ensures.gap)

pub returns-clause-key : goal.returns-clause-key
returns-clause-key g c =
    let read : c.remove.result ≡ get_or c.args.self.now c.in-Ok.place c.remove.result = c.remove.ensures.value ∙ ap (λ es. get_or es c.in-Ok.place c.remove.result) c.self.view_is in
    ap (λ e. e.0) read ∙ exact_texts _ _ (c.in-Ok.ensures.found.same c.remove.result)

pub returns-clause-value : goal.returns-clause-value
returns-clause-value g c =
    let read : c.remove.result ≡ get_or c.args.self.now c.in-Ok.place c.remove.result = c.remove.ensures.value ∙ ap (λ es. get_or es c.in-Ok.place c.remove.result) c.self.view_is in
    found _ _ _ c.remove.result c.in-Ok.ensures.found ∙ ap (λ e. Some e.1) (sym read)
