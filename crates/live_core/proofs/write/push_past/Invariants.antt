use Rattle.std.proofs.Common.{◌≡◌, ◌++◌, take}
use Rattle.decl_core.specs.ObjectMap.{object_of}
use Rattle.live_core.specs.Text.{runs_text}
use Rattle.live_core.proofs.write.push_past.Given as goal

abbrev pub invariant-loop-run : goal.invariant-loop-run
invariant-loop-run l = l.out.items ≡ l.initial.out.items ++ runs_text (object_of l.object) (take l.run-index l.past)
