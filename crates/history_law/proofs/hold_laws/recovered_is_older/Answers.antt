use Rattle.history_law.proofs.Older.{recovered_is_older}
use Rattle.history_law.proofs.hold_laws.recovered_is_older.Goals as goal

pub returns : goal.returns
returns c = recovered_is_older
