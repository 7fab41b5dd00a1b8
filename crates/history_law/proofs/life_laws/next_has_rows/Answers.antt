use Rattle.history_law.proofs.Rows.{next_has_rows}
use Rattle.history_law.proofs.life_laws.next_has_rows.Goals as goal

pub returns : goal.returns
returns c = next_has_rows
