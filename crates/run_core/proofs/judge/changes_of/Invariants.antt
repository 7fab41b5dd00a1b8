use Rattle.run_core.proofs.Changes.{Changing}
use Rattle.run_core.proofs.judge.changes_of.Given as goal

abbrev pub invariant-loop-part : goal.invariant-loop-part
invariant-loop-part l = Changing l.operation l.read l.after l.part l.changes.items
