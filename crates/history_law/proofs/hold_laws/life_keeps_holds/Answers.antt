use Rattle.history_law.proofs.Older.{life_keeps_holds}
use Rattle.history_law.proofs.hold_laws.life_keeps_holds.Goals as goal

pub returns : goal.returns
returns c = life_keeps_holds
