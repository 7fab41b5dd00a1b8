use Rattle.std.proofs.Common.{◌≡◌, ◌++◌, take}
use Rattle.decl_core.specs.ObjectMap.{object_of}
use Rattle.decl_core.specs.HoldMap.{holds_of}
use Rattle.front_read.specs.HeldLines.{held_text}
use Rattle.front_read.proofs.hold_lines.push_all.Given as goal

abbrev pub invariant-loop-held : goal.invariant-loop-held
invariant-loop-held l = l.out.items ≡ l.initial.out.items ++ held_text (object_of l.object) (holds_of l.holds) (take l.held-index l.all)
