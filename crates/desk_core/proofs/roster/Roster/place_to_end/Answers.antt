use Rattle.std.proofs.Common.{◌≡◌, ◌∙◌, ◌⊎◌, ap, subst, Some}
use Rattle.std.specs.Prelude.{IfSome, IfNone, slice_get}
use Rattle.page_core.specs.Outcomes.{outcome_call, IsFresh}
use Rattle.page_core.specs.Lists.{Every}
use Rattle.page_core.specs.ObjectCalls.{RunningCall}
use Rattle.board_core.specs.Board.{Board}
use Rattle.board_core.specs.Outcomes.{IsOf}
use Rattle.desk_core.proofs.roster.Roster.place_to_end.Goals as goal

pub returns-clause-some : goal.returns-clause-some
returns-clause-some c =
    subst (λ rs. IfSome c.place_to_end.result (λ k. IsFresh c.args.outcome.now × ((r : RunningCall) × (slice_get rs k ≡ Some r) × IsOf (outcome_call c.args.outcome.now) r)))
    (c.deref.ensures.value ∙ ap (λ (b : Board). b.running) c.self.view_is) c.place_to_end.ensures.some

pub returns-clause-none : goal.returns-clause-none
returns-clause-none c =
    subst (λ rs. IfNone c.place_to_end.result ((IsFresh c.args.outcome.now → ⊥) ⊎ Every (λ r. IsOf (outcome_call c.args.outcome.now) r → ⊥) rs))
    (c.deref.ensures.value ∙ ap (λ (b : Board). b.running) c.self.view_is) c.place_to_end.ensures.none
