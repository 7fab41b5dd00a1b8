use Rattle.std.proofs.Common.{◌≡◌, take}
use Rattle.live_core.specs.Past.{events_in}
use Rattle.live_core.proofs.past.events_of.Given as goal

abbrev pub invariant-loop-run : goal.invariant-loop-run
invariant-loop-run l = l.out.items ≡ events_in (take l.run-index l.runs)
