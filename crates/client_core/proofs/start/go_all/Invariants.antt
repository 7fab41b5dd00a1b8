use Rattle.std.proofs.Common.{take}
use Rattle.std.specs.Prelude.{All}
use Rattle.client_core.specs.Start.{IsAmong, IsGoneBy}
use Rattle.client_core.proofs.start.go_all.Given as goal

abbrev pub invariant-loop-place : goal.invariant-loop-place
invariant-loop-place l = All (IsGoneBy l.hosted.guests l.held l.second l.away) l.gone.items × All (IsAmong l.gone.items) (take l.place l.held)
