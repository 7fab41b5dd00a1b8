use Rattle.std.proofs.Common.{◌≡◌, set, sym, ap, subst, ◌∙◌}
use Rattle.std.specs.FinMap.{put}
use Rattle.value_core.specs.TextOrder.{text_cmp}
use Rattle.value_core.specs.Sorted.{Rise, StandsAt, IsGapFor}
use Rattle.value_core.proofs.Placing.{put_into, put_over, rise_put}
use Rattle.value_core.proofs.sorted.Sorted.put_row.Goals as goal

pub invariant_of-self : goal.invariant_of-self
invariant_of-self g c =
    let es = c.self.inside.rows.items in
    let at = subst (λ es. StandsAt es c.args.row c.in-Ok.place) (sym c.self.view_is) (subst (λ k. StandsAt c.args.self.now k c.in-Ok.place) c.text.ensures c.in-Ok.ensures.found) in
    let same : set es c.in-Ok.place (c.index_mut.result.now.0, c.args.value) ≡ put text_cmp c.args.row c.args.value es = ap (λ e. set es c.in-Ok.place (e.0, c.args.value)) c.index_mut.ensures.value ∙ put_over es c.args.row c.args.value c.in-Ok.place c.index_mut.result.now at in
    subst Rise (sym same) (rise_put c.args.row c.args.value es c.self.invariant)

pub returns-in-Ok-clause-rows : goal.returns-in-Ok-clause-rows
returns-in-Ok-clause-rows g c =
    let es = c.self.inside.rows.items in
    let at = subst (λ es. StandsAt es c.args.row c.in-Ok.place) (sym c.self.view_is) (subst (λ k. StandsAt c.args.self.now k c.in-Ok.place) c.text.ensures c.in-Ok.ensures.found) in
    ap (λ e. set es c.in-Ok.place (e.0, c.args.value)) c.index_mut.ensures.value ∙ put_over es c.args.row c.args.value c.in-Ok.place c.index_mut.result.now at ∙ ap (put text_cmp c.args.row c.args.value) c.self.view_is

pub returns-in-Ok-clause-still : goal.returns-in-Ok-clause-still
returns-in-Ok-clause-still g c =
    let es = c.self.inside.rows.items in
    let at = subst (λ es. StandsAt es c.args.row c.in-Ok.place) (sym c.self.view_is) (subst (λ k. StandsAt c.args.self.now k c.in-Ok.place) c.text.ensures c.in-Ok.ensures.found) in
    let same : set es c.in-Ok.place (c.index_mut.result.now.0, c.args.value) ≡ put text_cmp c.args.row c.args.value es = ap (λ e. set es c.in-Ok.place (e.0, c.args.value)) c.index_mut.ensures.value ∙ put_over es c.args.row c.args.value c.in-Ok.place c.index_mut.result.now at in
    subst Rise (sym same) (rise_put c.args.row c.args.value es c.self.invariant)

pub invariant_of-self-in-Err : goal.invariant_of-self-in-Err
invariant_of-self-in-Err g c =
    let es = c.self.inside.rows.items in
    let gap = subst (λ es. IsGapFor es c.args.row c.in-Err.place) (sym c.self.view_is) (subst (λ k. IsGapFor c.args.self.now k c.in-Err.place) c.text.ensures c.in-Err.ensures.gap) in
    subst Rise (sym (c.put_in.ensures ∙ put_into es c.args.row c.args.value c.in-Err.place gap)) (rise_put c.args.row c.args.value es c.self.invariant)

pub returns-in-Err-clause-rows : goal.returns-in-Err-clause-rows
returns-in-Err-clause-rows g c =
    let es = c.self.inside.rows.items in
    let gap = subst (λ es. IsGapFor es c.args.row c.in-Err.place) (sym c.self.view_is) (subst (λ k. IsGapFor c.args.self.now k c.in-Err.place) c.text.ensures c.in-Err.ensures.gap) in
    c.put_in.ensures ∙ put_into es c.args.row c.args.value c.in-Err.place gap ∙ ap (put text_cmp c.args.row c.args.value) c.self.view_is

pub returns-in-Err-clause-still : goal.returns-in-Err-clause-still
returns-in-Err-clause-still g c =
    let es = c.self.inside.rows.items in
    let gap = subst (λ es. IsGapFor es c.args.row c.in-Err.place) (sym c.self.view_is) (subst (λ k. IsGapFor c.args.self.now k c.in-Err.place) c.text.ensures c.in-Err.ensures.gap) in
    subst Rise (sym (c.put_in.ensures ∙ put_into es c.args.row c.args.value c.in-Err.place gap)) (rise_put c.args.row c.args.value es c.self.invariant)
