use Rattle.std.proofs.Common.{◌≡◌}
use Rattle.office_core.proofs.turns.Turns.new.Given as goal

abbrev pub invariant-loop-entry : goal.invariant-loop-entry
invariant-loop-entry l = l.turns.number ≡ 0
