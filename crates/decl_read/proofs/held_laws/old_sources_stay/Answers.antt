use Rattle.decl_read.proofs.OldSources.{old_sources_stay}
use Rattle.decl_read.proofs.held_laws.old_sources_stay.Goals as goal

pub returns : goal.returns
returns c = old_sources_stay
