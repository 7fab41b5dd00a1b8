use Rattle.std.proofs.Common.{length}
use Rattle.std.specs.Prelude.{codes}
use Rattle.decl_core.specs.ObjectMap.{object_of}
use Rattle.front_read.specs.Rows.{AreRows}
use Rattle.decl_core.specs.HoldMap.{holds_of}
use Rattle.front_read.specs.HeldLines.{held_words, IsHeldLine}
use Rattle.recover_core.proofs.text.take_lines.Given as goal

abbrev pub invariant-lines : goal.invariant-lines
invariant-lines l = AreRows (IsHeldLine (object_of l.object) (holds_of l.holds)) (codes "held") (held_words (object_of l.object) (holds_of l.holds)) l.text l.all l.rest

abbrev pub decreases-lines : goal.decreases-lines
decreases-lines l = length l.rest
