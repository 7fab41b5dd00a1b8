use Rattle.std.proofs.Common.{◌≡◌, ◌<◌, ◌∙◌, Some, length, ap, refl, sym, subst}
use Rattle.std.specs.Prelude.{slice_get}
use Rattle.word_core.specs.Events.{Called}
use Rattle.live_core.specs.Bodies.{IsNumberedAt}
use Rattle.live_core.proofs.Places.{one_at, there}
use Rattle.live_core.proofs.waiters.Waiters.call_numbered.Goals as goal

pub returns-in-Some : goal.returns-in-Some
returns-in-Some c =
    let rows = c.self.inside.rows.items in
    let k = c.in-Some.place in
    let its = subst (λ ws. IsNumberedAt ws c.args.number k) (sym c.self.view_is) c.in-Some.ensures.some in
    let here = there rows k c.index.result.now its.within c.index.ensures in
    (k, subst (λ ws. slice_get ws k ≡ Some c.index.result.now) c.self.view_is here, ap (λ (x : Called). x.number) (one_at rows k k c.index.result.now its.call refl here its.there) ∙ its.number_is)
