use Rattle.std.proofs.Common.{◌≡◌, set, sym, ap, subst, ◌∙◌}
use Rattle.std.specs.FinMap.{put}
use Rattle.std.specs.List.{insert}
use Rattle.value_core.specs.TextOrder.{text_cmp}
use Rattle.value_core.specs.Sorted.{Rise, StandsAt, IsGapFor}
use Rattle.value_core.proofs.Placing.{put_into, put_over, rise_put}
use Rattle.value_core.proofs.sorted.Sorted.insert.Goals as goal

pub invariant_of-self : goal.invariant_of-self
invariant_of-self g c =
    let es = c.self.inside.rows.items in
    let at = subst (λ es. StandsAt es c.args.key.now c.in-Ok.place) (sym c.self.view_is) c.in-Ok.ensures.found in
    let same : set es c.in-Ok.place (c.index_mut.result.now.0, c.args.value) ≡ put text_cmp c.args.key.now c.args.value es = ap (λ e. set es c.in-Ok.place (e.0, c.args.value)) c.index_mut.ensures.value ∙ put_over es c.args.key.now c.args.value c.in-Ok.place c.index_mut.result.now at in
    subst Rise (sym same) (rise_put c.args.key.now c.args.value es c.self.invariant)

pub returns-in-Ok-clause-ok : goal.returns-in-Ok-clause-ok
returns-in-Ok-clause-ok g c =
    let es = c.self.inside.rows.items in
    let at = subst (λ es. StandsAt es c.args.key.now c.in-Ok.place) (sym c.self.view_is) c.in-Ok.ensures.found in
    ap (λ e. set es c.in-Ok.place (e.0, c.args.value)) c.index_mut.ensures.value ∙ put_over es c.args.key.now c.args.value c.in-Ok.place c.index_mut.result.now at ∙ ap (put text_cmp c.args.key.now c.args.value) c.self.view_is

pub invariant_of-self-in-Err : goal.invariant_of-self-in-Err
invariant_of-self-in-Err g c =
    let es = c.self.inside.rows.items in
    let gap = subst (λ es. IsGapFor es c.args.key.now c.in-Err.place) (sym c.self.view_is) c.in-Err.ensures.gap in
    let same : c.insert.new.self.items ≡ put text_cmp c.args.key.now c.args.value es = c.in_ok-insert-in-Err.ensures.items ∙ ap (λ k. insert es c.in-Err.place (k, c.args.value)) c.in_ok-row-in-Err.ensures ∙ put_into es c.args.key.now c.args.value c.in-Err.place gap in
    subst Rise (sym same) (rise_put c.args.key.now c.args.value es c.self.invariant)

pub returns-in_ok-insert-in-Err-clause-ok : goal.returns-in_ok-insert-in-Err-clause-ok
returns-in_ok-insert-in-Err-clause-ok g c =
    let es = c.self.inside.rows.items in
    let gap = subst (λ es. IsGapFor es c.args.key.now c.in-Err.place) (sym c.self.view_is) c.in-Err.ensures.gap in
    c.in_ok-insert-in-Err.ensures.items ∙ ap (λ k. insert es c.in-Err.place (k, c.args.value)) c.in_ok-row-in-Err.ensures ∙ put_into es c.args.key.now c.args.value c.in-Err.place gap ∙ ap (put text_cmp c.args.key.now c.args.value) c.self.view_is
