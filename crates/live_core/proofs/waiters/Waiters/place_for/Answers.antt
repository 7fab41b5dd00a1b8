use Rattle.std.proofs.Common.{◌≡◌, ◌≢◌, ◌<◌, ◌∙◌, ℕ, Some, length, ap, arith, refl, sym, subst}
use Rattle.std.specs.Prelude.{slice_get}
use Rattle.word_core.specs.Events.{Called}
use Rattle.live_core.specs.Hall.{Every}
use Rattle.live_core.specs.Bodies.{IsNumberedAt, IsOfSessionAt}
use Rattle.live_core.proofs.Places.{none_but, none_of_session, one_at, there}
use Rattle.live_core.proofs.waiters.Waiters.place_for.Goals as goal

pub returns-in-None-clause-none : goal.returns-in-None-clause-none
returns-in-None-clause-none c =
    let numbers = c.self.inside.numbers.items in
    let n = c.index.result.now in
    let at = there numbers c.args.session n (omega (arith, c.if-at-len.false, c.len.ensures)) c.index.ensures in
    subst (Every (λ (x : Called). x.session ≢ c.args.session)) c.self.view_is
    (none_of_session numbers c.self.inside.rows.items c.args.session n c.self.invariant.noted at (subst (Every (λ (x : Called). x.number ≢ n)) c.deref-2.ensures.value c.in-None.ensures.none))

pub returns-then-found-session-clause-none : goal.returns-then-found-session-clause-none
returns-then-found-session-clause-none c =
    let numbers = c.self.inside.numbers.items in
    let rows = c.self.inside.rows.items in
    let n = c.index.result.now in
    let k = c.in-Some.place in
    let at = there numbers c.args.session n (omega (arith, c.if-at-len.false, c.len.ensures)) c.index.ensures in
    let its = subst (λ ws. IsNumberedAt ws n k) c.deref-2.ensures.value c.in-Some.ensures.some in
    let here = there rows k c.index-in-Some.result.now its.within c.index-in-Some.ensures in
    let one = one_at rows k k c.index-in-Some.result.now its.call refl here its.there in
    subst (Every (λ (x : Called). x.session ≢ c.args.session)) c.self.view_is
    (none_but numbers rows c.args.session n k its.call c.self.invariant.in_order c.self.invariant.noted at its.there its.number_is
    (λ same. c.if-found-session.true (c.session-found.ensures ∙ ap (λ (x : Called). x.session) one ∙ same)))

pub returns-else-found-session-clause-some : goal.returns-else-found-session-clause-some
returns-else-found-session-clause-some c =
    let rows = c.self.inside.rows.items in
    let n = c.index.result.now in
    let k = c.in-Some.place in
    let its = subst (λ ws. IsNumberedAt ws n k) c.deref-2.ensures.value c.in-Some.ensures.some in
    let here = there rows k c.index-in-Some.result.now its.within c.index-in-Some.ensures in
    subst (λ ws. IsOfSessionAt ws c.args.session k) c.self.view_is
    (record { within = its.within; call = c.index-in-Some.result.now; there = here; session_is = sym c.session-found.ensures ∙ c.if-found-session.false })
