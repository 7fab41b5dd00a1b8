use Rattle.std.proofs.Common.{◌-◌, length}
use Rattle.world_core.proofs.stage.WorldTables.+begin.Given as goal

abbrev pub decreases-begin : goal.decreases-begin
decreases-begin l = length l.self.now.desk.trace - l.from
