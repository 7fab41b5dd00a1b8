use Rattle.std.proofs.Common.{take, length, ◌≤◌, ◌+◌, ◌*◌, ◌++◌, ◌≡◌}
use Rattle.std.specs.Prelude.{vec_capacity}
use Rattle.serve_core.specs.Told.{values_text}
use Rattle.serve_core.proofs.clear.add_values.Given as goal

abbrev pub invariant-loop-number : goal.invariant-loop-number
invariant-loop-number l = (l.line.items ≡ l.fn.line.items ++ values_text (take l.number-index l.numbers))
    × (length l.line.items ≤ length l.fn.line.items + 25 * l.number-index) × (vec_capacity l.fn.line ≤ vec_capacity l.line)
