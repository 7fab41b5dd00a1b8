use Rattle.std.proofs.Common.{◌≢◌, arith}
use Rattle.std.proofs.lemmas.Option.{slice_get-get_or, slice_get_within}
use Rattle.client_core.specs.declared.holder.Holder.{Holder}
use Rattle.client_core.specs.declared.holder.WhenDue.TheVariants.{Now}
use Rattle.client_core.proofs.Places.{all_places, all_before}
use Rattle.client_core.proofs.holder.first_now.Goals as goal

pub returns : goal.returns
returns c = all_places (λ (g : Holder). g.when ≢ Now) c.args.rows.now (λ k g there. let h = slice_get_within c.args.rows.now k g there in c.loop-place.invariant k g (omega (arith, h)) there)

pub returns-then-is_now : goal.returns-then-is_now
returns-then-is_now c =
    let items = c.args.rows.now in
    let place = c.loop-place.place in
    (place, slice_get-get_or items place _ (omega arith), c.is_now.ensures.yes c.if-is_now.true, all_before (λ (g : Holder). g.when ≢ Now) items place c.loop-place.invariant)
