use Rattle.office_core.proofs.Law.{slips_are_legal}
use Rattle.office_core.proofs.laws.slips_are_legal.Goals as goal

pub returns : goal.returns
returns c = slips_are_legal
