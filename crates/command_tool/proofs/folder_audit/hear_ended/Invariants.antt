use Rattle.std.proofs.Common.{◌≡◌}
use Rattle.decl_core.specs.ObjectMap.{object_of}
use Rattle.command_tool.specs.Said.{GoesOn}
use Rattle.command_tool.proofs.folder_audit.hear_ended.Given as goal

abbrev pub invariant-loop-number : goal.invariant-loop-number
invariant-loop-number g l = GoesOn (object_of l.fn.object) l.fn.epochs l.epochs × (l.said.lines.items ≡ l.fn.said.lines.items)
