use Rattle.std.proofs.Common.{take}
use Rattle.page_core.specs.Outcomes.{outcome_call}
use Rattle.page_core.specs.Lists.{Every}
use Rattle.board_core.specs.Outcomes.{IsOf}
use Rattle.desk_core.proofs.find.place_of_call.Given as goal

abbrev pub invariant-loop-place : goal.invariant-loop-place
invariant-loop-place l = Every (λ r. IsOf (outcome_call l.outcome) r → ⊥) (take l.place l.running)
