use Rattle.decl_core.proofs.Openly.{openly_means}
use Rattle.decl_core.proofs.exclude_laws.meeting_openly.Goals as goal

pub returns : goal.returns
returns c = openly_means
