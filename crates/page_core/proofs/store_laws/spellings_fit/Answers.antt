use Rattle.page_core.proofs.Lengths.{spellings_fit}
use Rattle.page_core.proofs.store_laws.spellings_fit.Goals as goal

pub returns : goal.returns
returns c = spellings_fit
