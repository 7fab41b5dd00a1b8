use Rattle.std.proofs.Common.{◌≡◌, ◌≤◌, length, ap, subst, sym, ◌∙◌, arith}
use Rattle.std.specs.Prelude.{Some, slice_get}
use Rattle.std.proofs.lemmas.Option.{slice_get-get_or}
use Rattle.live_core.specs.Hall.{Hall}
use Rattle.inside_core.specs.Adds.{crowd_of}
use Rattle.inside_core.proofs.Awaiting.{longest_none, longest_more, longest_of_all}
use Rattle.inside_core.proofs.longest.longest_wait.Goals as goal

pub loop-k-init : goal.loop-k-init
loop-k-init c = longest_none (crowd_of c.args.clients.now c.args.whom) c.args.object.now c.args.operation

pub loop-k-preserved : goal.loop-k-preserved
loop-k-preserved c =
    let d = c.index-waiting-k.result in
    let here = c.waiting-waiting.result.now in
    let is : here ≡ c.args.object.now.hall.waiting = c.waiting-waiting.ensures ∙ ap (λ (h : Hall). h.waiting) c.live.ensures in
    let at : slice_get here c.loop-k.k ≡ Some d = slice_get-get_or here c.loop-k.k d c.loop-k-test.true ∙ ap Some (sym c.index-waiting-k.is) in
    longest_more (crowd_of c.args.clients.now c.args.whom) c.args.object.now c.args.operation c.loop-k.k c.loop-k.longest c.seconds_if-here.result c.greater-longest.result d
    c.loop-k.invariant (subst (λ l. slice_get l c.loop-k.k ≡ Some d) is at) c.seconds_if-here.ensures.of c.seconds_if-here.ensures.other
    c.greater-longest.ensures.one c.greater-longest.ensures.other c.greater-longest.ensures.which

pub returns : goal.returns
returns c =
    let is : length c.waiting-waiting.result.now ≡ length c.args.object.now.hall.waiting = ap length (c.waiting-waiting.ensures ∙ ap (λ (h : Hall). h.waiting) c.live.ensures) in
    let all : length c.args.object.now.hall.waiting ≤ c.loop-k.k = (let b = c.loop-k-test.false in omega (arith, is, b)) in
    longest_of_all (crowd_of c.args.clients.now c.args.whom) c.args.object.now c.args.operation c.loop-k.k c.loop-k.longest all c.loop-k.invariant
