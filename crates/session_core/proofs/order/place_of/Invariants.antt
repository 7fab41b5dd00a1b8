use Rattle.std.proofs.Common.{◌≢◌, take}
use Rattle.page_core.specs.Lists.{Every}
use Rattle.session_core.specs.declared.order.Named.{Named}
use Rattle.session_core.proofs.order.place_of.Given as goal

abbrev pub invariant-loop-at : goal.invariant-loop-at
invariant-loop-at l = Every (λ (n : Named). n.name ≢ l.name) (take l.at l.offices)
