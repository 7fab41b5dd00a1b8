use Rattle.apply_core.proofs.Histories.{leads_on}
use Rattle.apply_core.proofs.laws.leads_on.Goals as goal

pub returns : goal.returns
returns c = leads_on
