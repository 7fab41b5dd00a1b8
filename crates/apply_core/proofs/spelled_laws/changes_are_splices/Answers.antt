use Rattle.apply_core.proofs.Splices.{splices}
use Rattle.apply_core.proofs.spelled_laws.changes_are_splices.Goals as goal

pub returns : goal.returns
returns c = splices
