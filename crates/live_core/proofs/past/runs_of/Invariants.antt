use Rattle.std.proofs.Common.{◌≡◌, take}
use Rattle.live_core.specs.Past.{events_in}
use Rattle.live_core.proofs.past.runs_of.Given as goal

abbrev pub invariant-loop-place : goal.invariant-loop-place
invariant-loop-place l = events_in l.out.items ≡ take l.place l.past
