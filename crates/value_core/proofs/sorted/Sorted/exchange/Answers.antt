use Rattle.std.proofs.Common.{◌≡◌, set, sym, ap, subst, ◌∙◌}
use Rattle.std.specs.Prelude.{if◌then◌else◌, is_some}
use Rattle.std.specs.FinMap.{put}
use Rattle.value_core.specs.TextOrder.{text_cmp}
use Rattle.value_core.specs.Sorted.{Rise, StandsAt}
use Rattle.value_core.proofs.Placing.{put_over, rise_put, there, missing}
use Rattle.value_core.proofs.sorted.Sorted.exchange.Goals as goal

pub invariant_of-self : goal.invariant_of-self
invariant_of-self g c =
    let es = c.self.inside.rows.items in
    let at = subst (λ es. StandsAt es c.args.key.now c.in-Ok.place) (sym c.self.view_is) c.in-Ok.ensures.found in
    let same : set es c.in-Ok.place (c.index_mut.result.now.0, c.args.value) ≡ put text_cmp c.args.key.now c.args.value es = ap (λ e. set es c.in-Ok.place (e.0, c.args.value)) c.index_mut.ensures.value ∙ put_over es c.args.key.now c.args.value c.in-Ok.place c.index_mut.result.now at in
    subst Rise (sym same) (rise_put c.args.key.now c.args.value es c.self.invariant)

pub returns-in-Ok-clause-rows : goal.returns-in-Ok-clause-rows
returns-in-Ok-clause-rows g c =
    let es = c.self.inside.rows.items in
    let at = subst (λ es. StandsAt es c.args.key.now c.in-Ok.place) (sym c.self.view_is) c.in-Ok.ensures.found in
    ap (λ e. set es c.in-Ok.place (e.0, c.args.value)) c.index_mut.ensures.value ∙ put_over es c.args.key.now c.args.value c.in-Ok.place c.index_mut.result.now at ∙ ap (put text_cmp c.args.key.now c.args.value) c.self.view_is
    ∙ sym (ap (λ b. if b then put text_cmp c.args.key.now c.args.value c.args.self.now else c.args.self.now) (there _ _ _ c.in-Ok.ensures.found))

pub returns-in-Ok-clause-still : goal.returns-in-Ok-clause-still
returns-in-Ok-clause-still g c =
    let es = c.self.inside.rows.items in
    let at = subst (λ es. StandsAt es c.args.key.now c.in-Ok.place) (sym c.self.view_is) c.in-Ok.ensures.found in
    let same : set es c.in-Ok.place (c.index_mut.result.now.0, c.args.value) ≡ put text_cmp c.args.key.now c.args.value es = ap (λ e. set es c.in-Ok.place (e.0, c.args.value)) c.index_mut.ensures.value ∙ put_over es c.args.key.now c.args.value c.in-Ok.place c.index_mut.result.now at in
    subst Rise (sym same) (rise_put c.args.key.now c.args.value es c.self.invariant)

pub returns-in_default-clause-rows : goal.returns-in_default-clause-rows
returns-in_default-clause-rows g c =
    sym (ap (λ o. if is_some o then put text_cmp c.args.key.now c.args.value c.args.self.now else c.args.self.now) (missing _ _ _ c.in_default.ensures.gap))
