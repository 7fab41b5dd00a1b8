use Rattle.std.proofs.Common.{◌≡◌, ◌^◌, ◌-◌, ◌≤◌, ◌<◌, length, refl, subst, sym, arith}
use Rattle.std.specs.Prelude.{slice_index, slice_get}
use Rattle.std.proofs.lemmas.Option.{slice_get_within}
use Rattle.word_core.specs.Events.{Called}
use Rattle.live_core.specs.Waiters.{AreFrom}
use Rattle.live_core.proofs.Listing.{every_map}
use Rattle.live_core.proofs.Places.{raised, there, one_at}
use Rattle.live_core.proofs.waiters.raise.Goals as goal

pub head_of-place-requires : goal.head_of-place-requires
head_of-place-requires c = record {
  in_order = c.requires.in_order;
  bound = every_map (λ (x : Called). slice_index c.args.firsts.now x.operation ≤ x.number) (λ (x : Called). x.operation ≡ c.args.operation → slice_index c.args.firsts.now c.args.operation ≤ x.number)
      (λ x from same. subst (λ o. slice_index c.args.firsts.now o ≤ x.number) same from) c.args.rows.now c.requires.firsts;
}

pub returns-then-place-many-clause-firsts : goal.returns-then-place-many-clause-firsts
returns-then-place-many-clause-firsts c =
    raised c.args.firsts.now c.args.rows.now c.args.operation c.head_of-place.result (2 ^ 32 - 1) c.requires.in_order c.requires.firsts (omega (arith, c.if-at-firsts.false)) c.head_of-place.ensures
    (λ d at. absurd (omega (arith, c.if-place-many.true, slice_get_within c.args.rows.now c.head_of-place.result d at)))

pub returns-clause-firsts : goal.returns-clause-firsts
returns-clause-firsts c =
    let within : c.head_of-place.result < length c.args.rows.now = omega (arith, c.if-place-many.false) in
    let here = there c.args.rows.now c.head_of-place.result c.index-rows-place.result within c.index-rows-place.is in
    raised c.args.firsts.now c.args.rows.now c.args.operation c.head_of-place.result c.number.result c.requires.in_order c.requires.firsts (omega (arith, c.if-at-firsts.false)) c.head_of-place.ensures
    (λ d at. subst (λ (x : Called). c.number.result ≤ x.number) (one_at c.args.rows.now c.head_of-place.result c.head_of-place.result c.index-rows-place.result d refl here at) (omega (arith, c.number.ensures)))
