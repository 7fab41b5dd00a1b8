use Rattle.apply_core.proofs.Cuts.{IsCut}
use Rattle.apply_core.proofs.find.find.Given as goal

abbrev pub invariant-loop-place : goal.invariant-loop-place
invariant-loop-place l = IsCut l.sort l.count l.key l.bytes l.rest l.place
