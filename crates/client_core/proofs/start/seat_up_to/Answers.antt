use Rattle.std.proofs.Common.{sym, subst, arith}
use Rattle.std.specs.Prelude.{All}
use Rattle.std.proofs.lemmas.List.Elements.{All-nil}
use Rattle.live_core.specs.HostedSteps.{rests}
use Rattle.client_core.specs.Start.{HoldsNoneOf}
use Rattle.client_core.proofs.Starting.{steps_both}
use Rattle.client_core.proofs.start.seat_up_to.Goals as goal

pub seats-init : goal.seats-init
seats-init c = (
  rests,
  (λ s taken free. taken free),
  (λ s below free. absurd (omega (arith, below))),
  subst (λ xs. All (HoldsNoneOf c.args.held.now) xs) (sym c.new-others.ensures.items) (All-nil (HoldsNoneOf c.args.held.now)),
  omega arith,
)

pub returns-then-not-branch-clause-steps : goal.returns-then-not-branch-clause-steps
returns-then-not-branch-clause-steps c = steps_both c.args.hosted.now c.seats.hosted c.seat_one.new.hosted c.seats.invariant.0 c.in_ok-seat_one.ensures.steps

pub seats-preserved : goal.seats-preserved
seats-preserved c = (
  steps_both c.args.hosted.now c.seats.hosted c.seat_one.new.hosted c.seats.invariant.0 c.in_ok-seat_one.ensures.steps,
  (λ s taken. c.in_ok-seat_one.ensures.taken s (c.seats.invariant.1 s taken)),
  c.in_ok-seat_one.ensures.more c.if-not-branch.false c.seats.count c.seats.invariant.2,
  c.in_ok-seat_one.ensures.others c.seats.invariant.3,
  omega (arith, c.seats-test.true, c.from.ensures),
)
