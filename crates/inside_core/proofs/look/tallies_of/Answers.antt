use Rattle.std.proofs.Common.{ap, sym, subst, arith, length, ◌∙◌}
use Rattle.live_core.specs.Hall.{Hall}
use Rattle.inside_core.specs.Adds.{crowd_of}
use Rattle.inside_core.specs.Looks.{AreTallies}
use Rattle.inside_core.proofs.Looking.{tallies_more, length_more}
use Rattle.inside_core.proofs.look.tallies_of.Goals as goal

pub loop-place-init : goal.loop-place-init
loop-place-init c = (subst (AreTallies (crowd_of c.args.clients.now c.args.whom) c.args.object.now c.args.ends.now 0) (sym c.new-tallies.ensures.items) tt, ap length c.new-tallies.ensures.items)

pub loop-place-preserved : goal.loop-place-preserved
loop-place-preserved c =
    let push = c.in_ok-push.ensures.items in
    let more = length_more c.loop-place.tallies.items c.in_ok-tally_of.field-0 in
    let count = c.loop-place.invariant.1 in (
      subst (AreTallies (crowd_of c.args.clients.now c.args.whom) c.args.object.now c.args.ends.now 0) (sym push)
          (tallies_more (crowd_of c.args.clients.now c.args.whom) c.args.object.now c.args.ends.now 0 c.loop-place.place c.loop-place.tallies.items c.in_ok-tally_of.field-0 (omega (arith, count)) c.loop-place.invariant.0
          c.in_ok-tally_of.ensures),
      (let long = ap length push in omega (arith, long, more, count)),
    )

pub returns-clause-all : goal.returns-clause-all
returns-clause-all c = c.loop-place.invariant.0

pub returns-clause-count : goal.returns-clause-count
returns-clause-count c =
    let a = c.loop-place.invariant.1 in
    let b = c.loop-place-test.false in
    let d = c.loop-place.auto.place-end in
    let e = c.operations_of-place-end.ensures ∙ ap (λ (h : Hall). length h.object.operations.items) c.live.ensures in
    omega (arith, a, b, d, e)
