use Rattle.std.proofs.Common.{◌≡◌}
use Rattle.inside_core.specs.Tallies.{nones}
use Rattle.inside_core.proofs.tallies.nones.Given as goal

abbrev pub invariant-loop-operation : goal.invariant-loop-operation
invariant-loop-operation l = l.ends.items ≡ nones l._operation
