use Rattle.std.proofs.Common.{length}
use Rattle.std.specs.Prelude.{codes}
use Rattle.decl_core.specs.ObjectMap.{object_of}
use Rattle.live_core.specs.Front.{IsRun}
use Rattle.live_core.specs.Text.{run_words}
use Rattle.front_read.specs.Rows.{AreRows}
use Rattle.front_read.proofs.read.take_past.Given as goal

abbrev pub invariant-rows : goal.invariant-rows
invariant-rows l = AreRows (IsRun (object_of l.object)) (codes "past") (run_words (object_of l.object)) l.text l.out.items l.rest

abbrev pub decreases-rows : goal.decreases-rows
decreases-rows l = length l.rest
