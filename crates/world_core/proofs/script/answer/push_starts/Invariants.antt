use Rattle.std.proofs.Common.{◌≡◌, ◌++◌, drop}
use Rattle.world_core.proofs.ScriptTelling.{told_starts}
use Rattle.world_core.proofs.script.answer.push_starts.Given as goal

abbrev pub invariant-loop-place : goal.invariant-loop-place
invariant-loop-place l = l.out.items ++ told_starts (drop l.place l.desk.trace) ≡ l.fn.out.items ++ told_starts (drop l.from l.desk.trace)
