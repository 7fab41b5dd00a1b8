use Rattle.std.proofs.Common.{◌≡◌, Bool, true, false, not, inl, inr, refl, subst}
use Rattle.queue_core.specs.Starts.{OpCanStart}
use Rattle.queue_core.proofs.Fronts.{get_set}
use Rattle.page_core.proofs.Lists.{true_false}
use Rattle.queue_core.proofs.queue.asks.Goals as goal

not_true : (b : Bool) → not b ≡ true → b ≡ false
not_true true h = absurd cc
not_true false h = refl

pub returns-clause-refused : goal.returns-clause-refused
returns-clause-refused c = λ n paths t stands are op is can. elim (get_set c.args.refused.now c.args.op (not c.can_start-can.result) op true is) [
  | inl here ↦ true_false c.can_start-can.result ((c.can_start-can.ensures n paths t stands).1 (subst (OpCanStart n paths t) here.0 can)) (not_true c.can_start-can.result here.1)
  | inr other ↦ are op other.1 can
]
