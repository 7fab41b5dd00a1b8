use Rattle.apply_core.proofs.Histories.{leads_by_one}
use Rattle.apply_core.proofs.laws.leads_by_one.Goals as goal

pub returns : goal.returns
returns c = leads_by_one
