use Rattle.std.proofs.Common.{◌≡◌, ◌<◌, ◌∙◌, Some, length, ap, refl, sym, subst}
use Rattle.std.specs.Prelude.{slice_get}
use Rattle.word_core.specs.Events.{Called}
use Rattle.live_core.specs.Bodies.{IsOfSessionAt}
use Rattle.live_core.proofs.Places.{one_at, there}
use Rattle.live_core.proofs.waiters.Waiters.call_of.Goals as goal

pub returns-in-Some-clause-some : goal.returns-in-Some-clause-some
returns-in-Some-clause-some c =
    let rows = c.self.inside.rows.items in
    let k = c.in-Some.place in
    let its = subst (λ ws. IsOfSessionAt ws c.args.session k) (sym c.self.view_is) c.in-Some.ensures.some in
    let here = there rows k c.index.result.now its.within c.index.ensures in
    (k, subst (λ ws. slice_get ws k ≡ Some c.index.result.now) c.self.view_is here, ap (λ (x : Called). x.session) (one_at rows k k c.index.result.now its.call refl here its.there) ∙ its.session_is)
