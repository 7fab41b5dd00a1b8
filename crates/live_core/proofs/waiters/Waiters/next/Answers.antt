use Rattle.std.proofs.Common.{◌≡◌, ◌≤◌, ◌<◌, ℕ, List, length, arith, sym, subst}
use Rattle.path_tree.specs.Path.{Path}
use Rattle.path_tree.specs.Trace.{Event}
use Rattle.path_tree.specs.Satisfies.{MayStart}
use Rattle.path_count.specs.Stands.{StandsFor}
use Rattle.word_core.specs.Events.{Called}
use Rattle.live_core.specs.Hall.{Every}
use Rattle.live_core.specs.Bodies.{IsFirstAt}
use Rattle.live_core.specs.Waiters.{IsReadyAt}
use Rattle.live_core.proofs.Places.{first_at, none_ready}
use Rattle.live_core.proofs.waiters.Waiters.next.Goals as goal

pub returns-clause-some : goal.returns-clause-some
returns-clause-some c =
    let rows = c.self.inside.rows.items in
    let place = c.first_ready-place.result in
    subst (λ ws. (n : ℕ) (paths : List Path) (t : List Event) → StandsFor c.args.counters.now n paths t → n ≡ c.args.operations → Every (λ (x : Called). x.operation < n) ws → IsFirstAt paths t ws place) c.self.view_is
    (λ n paths t stands same known.
    let at = subst (λ ws. IsReadyAt n paths t (λ x. x < c.args.operations) ws place) c.deref.ensures.value (c.first_ready-place.ensures n paths t stands) in
    let ready = subst (λ o. IsReadyAt n paths t (λ x. x < o) rows place) (sym same) at in
    first_at n paths t rows place ready known (omega (arith, c.if-place-many.false, c.len-many.ensures)))

pub returns-then-place-many-clause-none : goal.returns-then-place-many-clause-none
returns-then-place-many-clause-none c =
    let rows = c.self.inside.rows.items in
    let place = c.first_ready-place.result in
    subst (λ ws. (n : ℕ) (paths : List Path) (t : List Event) → StandsFor c.args.counters.now n paths t → n ≡ c.args.operations → Every (λ (x : Called). x.operation < n) ws → Every (λ (x : Called). MayStart paths x.operation t → ⊥) ws) c.self.view_is
    (λ n paths t stands same known.
    let at = subst (λ ws. IsReadyAt n paths t (λ x. x < c.args.operations) ws place) c.deref.ensures.value (c.first_ready-place.ensures n paths t stands) in
    let ready = subst (λ o. IsReadyAt n paths t (λ x. x < o) rows place) (sym same) at in
    none_ready n paths t rows place ready known (omega (arith, c.if-place-many.true, c.len-many.ensures)))
