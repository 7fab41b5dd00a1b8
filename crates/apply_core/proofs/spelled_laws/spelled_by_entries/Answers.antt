use Rattle.apply_core.proofs.Splices.{by_entries}
use Rattle.apply_core.proofs.spelled_laws.spelled_by_entries.Goals as goal

pub returns : goal.returns
returns c = by_entries
