use Rattle.history_law.proofs.Rows.{front_has_rows}
use Rattle.history_law.proofs.life_laws.front_has_rows.Goals as goal

pub returns : goal.returns
returns c = front_has_rows
