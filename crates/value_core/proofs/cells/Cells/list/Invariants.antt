use Rattle.std.proofs.Common.{◌≡◌, take}
use Rattle.value_core.specs.Cells.{cells_data}
use Rattle.value_core.proofs.cells.Cells.list.Given as goal

abbrev pub invariant-loop-place : goal.invariant-loop-place
invariant-loop-place l = l.list.items ≡ take l.place (cells_data l.self)
