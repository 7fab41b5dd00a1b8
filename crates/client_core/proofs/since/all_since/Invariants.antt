use Rattle.std.proofs.Common.{◌≡◌, take, map}
use Rattle.client_core.specs.Since.{since_start}
use Rattle.client_core.proofs.since.all_since.Given as goal

abbrev pub invariant-loop-place : goal.invariant-loop-place
invariant-loop-place l = l.all.items ≡ map (since_start l.second) (take l.place l.held)
