use Rattle.std.proofs.Common.{◌≡◌, ◌≤◌, ◌<◌, arith, subst, sym}
use Rattle.std.specs.Prelude.{slice_index}
use Rattle.word_core.specs.Events.{Called}
use Rattle.live_core.proofs.Listing.{every_map}
use Rattle.live_core.proofs.Places.{ready_more}
use Rattle.live_core.proofs.waiting.first_ready.Goals as goal

pub loop-operation-init : goal.loop-operation-init
loop-operation-init c = λ n paths t stands. record {
  within = omega arith;
  there = λ less. absurd (omega (arith, less));
  earlier = λ j d before at these. absurd (omega (arith, these));
}

pub ready_of-place-requires : goal.ready_of-place-requires
ready_of-place-requires c = record {
  in_order = c.requires.in_order;
  bound = every_map (λ (x : Called). slice_index c.args.firsts.now x.operation ≤ x.number) (λ (x : Called). x.operation ≡ c.loop-operation.operation → c.bound_of.result ≤ x.number)
      (λ x from same. omega (arith, from, c.bound_of.ensures, subst (λ o. slice_index c.args.firsts.now o ≤ x.number) same from)) c.args.waiting.now c.requires.firsts;
}

pub loop-operation-preserved : goal.loop-operation-preserved
loop-operation-preserved c = λ n paths t stands.
    ready_more n paths t c.args.waiting.now c.loop-operation.operation c.loop-operation.best c.ready_of-place.result c.earlier-best.result
    (c.loop-operation.invariant n paths t stands) (c.ready_of-place.ensures n paths t stands) c.earlier-best.ensures.best c.earlier-best.ensures.place c.earlier-best.ensures.one
