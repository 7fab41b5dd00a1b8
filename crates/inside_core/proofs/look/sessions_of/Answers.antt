use Rattle.std.proofs.Common.{◌<◌, ◌≤◌, ◌+◌, ◌∙◌, ap, refl, arith, length}
use Rattle.std.proofs.lemmas.List.{take_all}
use Rattle.client_core.specs.ToldInside.{sits_in, sitting_from}
use Rattle.client_core.specs.State.{peers_of}
use Rattle.inside_core.proofs.Looking.{sessions_more}
use Rattle.inside_core.proofs.look.sessions_of.Goals as goal

pub loop-place-init : goal.loop-place-init
loop-place-init c = (refl, omega arith)

pub loop-place-preserved : goal.loop-place-preserved
loop-place-preserved c =
    let inside : c.loop-place.place < length (peers_of c.args.clients.now) = (let a = c.count-place-end.ensures in let b = c.loop-place-test.true in omega (arith, a, b)) in (
      sessions_more c.args.at c.loop-place.place c.loop-place.sessions c.sits-sessions.result (c.loop-place.sessions + c.sits-sessions.result) (peers_of c.args.clients.now) inside
          c.loop-place.invariant.0 (c.sits-sessions.ensures.count ∙ ap (λ o. length (sits_in c.args.at 0 0 o)) c.opened_at.ensures) refl,
      (let a = c.loop-place.invariant.1 in let b = c.sits-sessions.ensures.one in omega (arith, a, b)),
    )

pub returns : goal.returns
returns c =
    let all : length (peers_of c.args.clients.now) ≤ c.loop-place.place = (let a = c.count-place-end.ensures in let b = c.loop-place-test.false in omega (arith, a, b)) in
    c.loop-place.invariant.0 ∙ ap (λ l. length (sitting_from 0 c.args.at 0 l)) (take_all c.loop-place.place (peers_of c.args.clients.now) all)
