use Rattle.std.proofs.Common.{◌≡◌, ◌<◌, ◌∙◌, length, refl, sym, ap, arith}
use Rattle.std.proofs.lemmas.Option.{slice_get_within}
use Rattle.word_core.specs.Events.{Called}
use Rattle.live_core.proofs.Places.{there, none_of, one_at}
use Rattle.live_core.proofs.waiting.place_of.Goals as goal

pub returns-then-place-many-clause-none : goal.returns-then-place-many-clause-none
returns-then-place-many-clause-none c =
    none_of c.args.waiting.now c.args.number c.place_from-place.result c.requires c.place_from-place.ensures
    (λ d at. absurd (omega (arith, slice_get_within c.args.waiting.now c.place_from-place.result d at, c.if-place-many.true)))

pub returns-then-found-number-clause-none : goal.returns-then-found-number-clause-none
returns-then-found-number-clause-none c =
    let here = there c.args.waiting.now c.place_from-place.result c.index-waiting-place.result (omega (arith, c.if-place-many.false)) c.index-waiting-place.is in
    none_of c.args.waiting.now c.args.number c.place_from-place.result c.requires c.place_from-place.ensures
    (λ d at same. c.if-found-number.true (c.number-found.ensures ∙ ap (λ (x : Called). x.number) (one_at c.args.waiting.now c.place_from-place.result c.place_from-place.result c.index-waiting-place.result d refl here at) ∙ same))

pub returns-clause-some : goal.returns-clause-some
returns-clause-some c =
    let within : c.place_from-place.result < length c.args.waiting.now = omega (arith, c.if-place-many.false) in record {
      within = within;
      call = c.index-waiting-place.result;
      there = there c.args.waiting.now c.place_from-place.result c.index-waiting-place.result within c.index-waiting-place.is;
      number_is = sym c.number-found.ensures ∙ c.if-found-number.false;
    }
