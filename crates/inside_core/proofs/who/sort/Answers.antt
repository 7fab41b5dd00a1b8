use Rattle.std.proofs.Common.{ℕ, rules}
use Rattle.std.proofs.lemmas.List.Sorted.{IsNonDecreasingBy-from_sort_by_key}
use Rattle.client_core.specs.declared.client.OpenObject.{OpenObject as AnOpened}
use Rattle.inside_core.proofs.who.sort.Goals as goal

pub returns-clause-rising : goal.returns-clause-rising
returns-clause-rising c = IsNonDecreasingBy-from_sort_by_key (λ (seat : ℕ × AnOpened). seat.1.session) _ c.sort_unstable_by_key.ensures.sorted (λ a r q k. search rules)
