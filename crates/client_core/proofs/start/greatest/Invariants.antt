use Rattle.std.proofs.Common.{take}
use Rattle.std.specs.Prelude.{All}
use Rattle.client_core.specs.Start.{IsBelow}
use Rattle.client_core.proofs.start.greatest.Given as goal

abbrev pub invariant-loop-place : goal.invariant-loop-place
invariant-loop-place l = All (IsBelow l.hosted.guests l.most) (take l.place l.held)
