use Rattle.world_core.specs.Told.{HasTold}
use Rattle.world_core.proofs.answer.wait_lines.Given as goal

abbrev pub invariant-loop-place : goal.invariant-loop-place
invariant-loop-place l = HasTold l.desk l.place l.count l.text.items
