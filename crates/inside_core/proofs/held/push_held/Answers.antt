use Rattle.std.proofs.Common.{◌≡◌, ◌≤◌, ◌<◌, ◌+◌, ◌∙◌, ap, sym, subst, arith, length, take, get_or, List}
use Rattle.std.specs.Prelude.{slice_get}
use Rattle.guest_core.specs.Held.{HeldCall}
use Rattle.client_core.specs.declared.since.HeldSince.{HeldSince}
use Rattle.client_core.specs.Holding.{Holding}
use Rattle.client_core.specs.HeldRows.{timed_from}
use Rattle.client_core.specs.ToldInside.{held_in}
use Rattle.inside_core.specs.Adds.{AddsHeld}
use Rattle.inside_core.proofs.Holding.{held_all, held_from, held_full, held_more}
use Rattle.inside_core.proofs.held.push_held.Goals as goal

pub loop-place-init : goal.loop-place-init
loop-place-init c = held_from c.args.whom.second c.args.object.now c.args.holding.now c.args.whom.from c.args.last c.args.out.now.items

pub loop-place-preserved : goal.loop-place-preserved
loop-place-preserved c =
    let h : Holding = c.args.holding.now in
    let place = c.loop-place.place in
    let same : c.all-held.result.now ≡ h.held = c.all-held.ensures ∙ c.holds.ensures in
    let within : place < length c.all-held.result.now = (let a = c.loop-place-test.true in omega (arith, a)) in
    let one : HeldCall = c.index-held-place.result in
    subst (λ n. AddsHeld c.args.whom.second c.args.object.now h (held_in c.args.whom.from c.args.last (timed_from 0 h.since (take (place + 1) h.held))) n c.args.out.now.items c.push_held_if.new.out.items × (n ≤ 256))
    (sym c.in_ok-lines.ensures)
    (held_more c.args.whom.second c.args.object.now h c.args.whom.from c.args.last place c.loop-place.lines c.in_ok-more.more one one c.since_at-one.result c.args.out.now.items c.loop-place.out.items c.push_held_if.new.out.items
    (subst (λ (l : List HeldCall). place < length l) same within) (subst (λ (l : List HeldCall). one ≡ get_or l place one) same c.index-held-place.is)
    (c.since_at-one.ensures ∙ ap (λ (l : List HeldSince). slice_get l place) c.since-since.ensures) (let a = c.if-lines-ge-MOST_HELD.false in omega (arith, a)) c.loop-place.invariant.0 c.in_ok-more.ensures)

pub returns-then-lines-ge-MOST_HELD : goal.returns-then-lines-ge-MOST_HELD
returns-then-lines-ge-MOST_HELD c =
    held_full c.args.whom.second c.args.object.now c.args.holding.now c.args.whom.from c.args.last c.loop-place.place c.loop-place.lines c.args.out.now.items c.loop-place.out.items
    (let a = c.if-lines-ge-MOST_HELD.true in omega (arith, a)) c.loop-place.invariant.1 c.loop-place.invariant.0

pub returns : goal.returns
returns c =
    let same : c.all-held.result.now ≡ c.args.holding.now.held = c.all-held.ensures ∙ c.holds.ensures in
    held_all c.args.whom.second c.args.object.now c.args.holding.now c.args.whom.from c.args.last c.loop-place.place c.loop-place.lines c.args.out.now.items c.loop-place.out.items
    (let a = c.loop-place-test.false in let b = ap length same in omega (arith, a, b)) c.loop-place.invariant.1 c.loop-place.invariant.0
