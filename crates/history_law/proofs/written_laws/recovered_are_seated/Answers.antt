use Rattle.history_law.proofs.Recovering.{recovered_are_seated}
use Rattle.history_law.proofs.written_laws.recovered_are_seated.Goals as goal

pub returns : goal.returns
returns c = recovered_are_seated
