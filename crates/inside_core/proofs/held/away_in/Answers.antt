use Rattle.std.proofs.Common.{◌≢◌, arith}
use Rattle.std.proofs.lemmas.Option.{slice_get-get_or, slice_get_within}
use Rattle.client_core.specs.declared.holder.Holder.{Holder}
use Rattle.client_core.proofs.Becoming.{all_places}
use Rattle.inside_core.proofs.held.away_in.Goals as goal

pub returns : goal.returns
returns c = all_places (λ (g : Holder). g.session ≢ c.args.session) c.args.gone.now (λ k g there. let h = slice_get_within c.args.gone.now k g there in c.loop-place.invariant k g (omega (arith, h)) there)

pub returns-then-is_of : goal.returns-then-is_of
returns-then-is_of c =
    let gone = c.args.gone.now in
    let place = c.loop-place.place in
    (place, _, slice_get-get_or gone place _ (omega arith), c.is_of.ensures.yes c.if-is_of.true, c.away_of.ensures)
