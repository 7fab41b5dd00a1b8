use Rattle.world_core.proofs.Showing.{Showing}
use Rattle.world_core.proofs.stage.WorldTables.contents.Given as goal

abbrev pub invariant-loop-part : goal.invariant-loop-part
invariant-loop-part l = Showing l.fn.self l.self l.values.items l.part
