use Rattle.history_law.proofs.Living.{found_goes_on}
use Rattle.history_law.proofs.year_laws.found_goes_on.Goals as goal

pub returns : goal.returns
returns c = found_goes_on
