use Rattle.std.proofs.Common.{All, take}
use Rattle.value_core.specs.Datum.{IsDatum}
use Rattle.page_core.specs.Lists.{Every}
use Rattle.desk_core.proofs.held.calls_have_data.Given as goal

abbrev pub invariant-loop-place : goal.invariant-loop-place
invariant-loop-place l = Every (λ c. All IsDatum c.arguments) (take l.place l.desk.calls)
