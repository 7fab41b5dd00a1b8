use Rattle.std.proofs.Common.{◌≡◌, ◌∷◌, drop}
use Rattle.check_core.specs.Lines.{runs}
use Rattle.check_core.proofs.Runs.{longer}
use Rattle.check_core.proofs.lines.run_length.Given as goal

abbrev pub invariant-loop-op : goal.invariant-loop-op
invariant-loop-op l = record {
  at : l.count ≡ l.op-index;
  run : runs (l.first ∷ l.behind) ≡ longer l.count (runs (l.first ∷ drop l.op-index l.behind));
}
