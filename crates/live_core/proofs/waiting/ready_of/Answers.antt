use Rattle.std.proofs.Common.{◌≡◌, ◌≤◌, ◌<◌, ap, subst, sym, arith}
use Rattle.std.proofs.lemmas.Option.{slice_get_within}
use Rattle.live_core.specs.Waiters.{MayOf}
use Rattle.live_core.proofs.Listing.{true_false}
use Rattle.live_core.proofs.waiting.ready_of.Goals as goal

pub returns-then-place-many : goal.returns-then-place-many
returns-then-place-many c = λ n paths t stands. record {
  within = omega arith;
  there = λ less. absurd (omega (arith, less));
  earlier = λ j d before at same may. c.head_of-place.ensures.earlier j d (omega (arith, before, c.if-place-many.true)) at same;
}

pub returns-then-can_start : goal.returns-then-can_start
returns-then-can_start c = λ n paths t stands. record {
  within = c.head_of-place.ensures.within;
  there = λ less.
      let h = c.head_of-place.ensures.there less in
      (h.0, h.1, subst (MayOf n paths t) (sym h.2) ((c.can_start.ensures n paths t stands).0 c.if-can_start.true));
  earlier = λ j d before at same may. c.head_of-place.ensures.earlier j d before at same;
}

pub returns : goal.returns
returns c = λ n paths t stands. record {
  within = omega arith;
  there = λ less. absurd (omega (arith, less));
  earlier = λ j d before at same may. true_false c.can_start.result ((c.can_start.ensures n paths t stands).1 (subst (MayOf n paths t) same may)) c.if-can_start.false;
}
