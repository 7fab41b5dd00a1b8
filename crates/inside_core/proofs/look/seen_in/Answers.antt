use Rattle.std.proofs.Common.{ap, sym, subst, arith, length}
use Rattle.inside_core.specs.Looks.{ShowsAll}
use Rattle.inside_core.proofs.Looking.{seen_more, length_more}
use Rattle.client_core.specs.Views.{custodies_of}
use Rattle.inside_core.proofs.look.seen_in.Goals as goal

pub loop-at-init : goal.loop-at-init
loop-at-init c = (
  subst (ShowsAll c.args.objects.now c.args.tallies.now.objects.items c.args.clients.now (custodies_of c.args.custody.now) c.args.second 0) (sym c.new-seen.ensures.items) tt,
  ap length c.new-seen.ensures.items,
)

pub loop-at-preserved : goal.loop-at-preserved
loop-at-preserved c =
    let push = c.in_ok-push.ensures.items in
    let more = length_more c.loop-at.seen.items c.in_ok-one.one in
    let count = c.loop-at.invariant.1 in (
      subst (ShowsAll c.args.objects.now c.args.tallies.now.objects.items c.args.clients.now (custodies_of c.args.custody.now) c.args.second 0) (sym push)
          (seen_more c.args.objects.now c.args.tallies.now.objects.items c.args.clients.now (custodies_of c.args.custody.now) c.args.second 0 c.loop-at.at c.loop-at.seen.items c.in_ok-one.one (omega (arith, count)) c.loop-at.invariant.0
          c.in_ok-one.ensures),
      (let long = ap length push in omega (arith, long, more, count)),
    )

pub returns-clause-all : goal.returns-clause-all
returns-clause-all c = c.loop-at.invariant.0

pub returns-clause-count : goal.returns-clause-count
returns-clause-count c =
    let a = c.loop-at.invariant.1 in
    let b = c.loop-at-test.false in
    let d = c.loop-at.auto.at-end in
    omega (arith, a, b, d)
