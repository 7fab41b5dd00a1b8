use Rattle.std.proofs.Common.{◌≡◌, ◌<◌, ◌+◌, ◌∙◌, ap, sym, subst, arith, List, length, take, get_or}
use Rattle.word_core.specs.Events.{Called}
use Rattle.live_core.specs.Hall.{Hall}
use Rattle.client_core.specs.ToldInside.{waiting_in}
use Rattle.inside_core.specs.Adds.{crowd_of, AddsWaits}
use Rattle.inside_core.proofs.Adding.{waits_more}
use Rattle.inside_core.proofs.who.push_calls.Goals as goal

pub loop-place-preserved : goal.loop-place-preserved
loop-place-preserved c =
    let calls : List Called = c.args.object.now.hall.waiting in
    let same : c.waiting-waiting.result.now ≡ calls = c.waiting-waiting.ensures ∙ ap (λ (h : Hall). h.waiting) c.live.ensures in
    let within : c.loop-place.place < length c.waiting-waiting.result.now = (let a = c.loop-place-test.true in omega (arith, a)) in
    let one : Called = c.index-waiting-place.result in (
      subst (λ n. AddsWaits (crowd_of c.args.clients.now c.args.whom) c.args.seats.now c.args.object.now (waiting_in c.args.whom.from c.args.last (take (c.loop-place.place + 1) calls)) n c.args.out.now.items c.push_if.new.out.items)
          (sym c.in_ok-lines.ensures)
          (waits_more (crowd_of c.args.clients.now c.args.whom) c.args.seats.now c.args.object.now c.args.whom.from c.args.last calls c.loop-place.place c.loop-place.lines c.in_ok-more.more one one c.args.out.now.items
          c.loop-place.out.items c.push_if.new.out.items (subst (λ (l : List Called). c.loop-place.place < length l) same within)
          (subst (λ (l : List Called). one ≡ get_or l c.loop-place.place one) same c.index-waiting-place.is) c.loop-place.invariant.0 c.in_ok-more.ensures.lines),
      c.in_ok-more.ensures.known,
    )
