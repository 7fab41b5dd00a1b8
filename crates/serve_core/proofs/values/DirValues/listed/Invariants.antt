use Rattle.serve_core.specs.Numbers.{AreBetween}
use Rattle.serve_core.proofs.values.DirValues.listed.Given as goal

abbrev pub invariant-loop-entry : goal.invariant-loop-entry
invariant-loop-entry g l = AreBetween l.first l.end l.numbers.items
