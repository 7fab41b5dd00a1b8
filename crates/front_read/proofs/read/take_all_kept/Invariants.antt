use Rattle.std.proofs.Common.{length}
use Rattle.std.specs.Prelude.{codes}
use Rattle.decl_core.specs.ObjectMap.{object_of}
use Rattle.live_core.specs.Front.{IsKept}
use Rattle.live_core.specs.Text.{kept_words}
use Rattle.front_read.specs.Rows.{AreRows}
use Rattle.front_read.proofs.read.take_all_kept.Given as goal

abbrev pub invariant-rows : goal.invariant-rows
invariant-rows l = AreRows (IsKept (object_of l.object)) (codes "kept") (kept_words (object_of l.object)) l.text l.out.items l.rest

abbrev pub decreases-rows : goal.decreases-rows
decreases-rows l = length l.rest
