use Rattle.std.proofs.Common.{take}
use Rattle.value_core.specs.Datum.{IsDatum}
use Rattle.page_core.specs.Lists.{Every}
use Rattle.desk_core.proofs.held.arguments_are_data.Given as goal

abbrev pub invariant-loop-place : goal.invariant-loop-place
invariant-loop-place l = Every IsDatum (take l.place l.call.arguments)
