use Rattle.history_law.proofs.Rows.{first_has_rows}
use Rattle.history_law.proofs.life_laws.first_has_rows.Goals as goal

pub returns : goal.returns
returns c = first_has_rows
