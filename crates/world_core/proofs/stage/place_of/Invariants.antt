use Rattle.std.proofs.Common.{◌≢◌, take}
use Rattle.page_core.specs.Lists.{Every}
use Rattle.world_core.specs.declared.slot.Slot.{Slot}
use Rattle.world_core.proofs.stage.place_of.Given as goal

abbrev pub invariant-loop-k : goal.invariant-loop-k
invariant-loop-k l = Every (λ (slot : Slot). slot.number ≢ l.number) (take l.k l.runs)
