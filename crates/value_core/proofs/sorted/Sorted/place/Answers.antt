use Rattle.std.proofs.Common.{rules}
use Rattle.std.proofs.lemmas.Fn.{always_returns_same}
use Rattle.value_core.specs.TextOrder.{text_cmp}
use Rattle.value_core.proofs.Placing.{placed}
use Rattle.value_core.proofs.sorted.Sorted.place.Goals as goal

-- each call of the closure compares a row's key
pub returns-clause-found : goal.returns-clause-found
returns-clause-found g c =
    let facts = c.binary_search_by.ensures in
    let end = facts.position (λ e. text_cmp e.0 c.args.key.now) (always_returns_same _ _ _ (λ a r h called. (search rules, search rules))) in
    rw (← c.self.view_is, ← c.as_slice.ensures.value) (placed _ c.args.key.now _ (rw c.as_slice.ensures.value c.self.invariant) facts.bound end).found

pub returns-clause-gap : goal.returns-clause-gap
returns-clause-gap g c =
    let facts = c.binary_search_by.ensures in
    let end = facts.position (λ e. text_cmp e.0 c.args.key.now) (always_returns_same _ _ _ (λ a r h called. (search rules, search rules))) in
    rw (← c.self.view_is, ← c.as_slice.ensures.value) (placed _ c.args.key.now _ (rw c.as_slice.ensures.value c.self.invariant) facts.bound end).gap
