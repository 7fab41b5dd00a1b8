use Rattle.apply_core.proofs.Histories.{refused_changes_none}
use Rattle.apply_core.proofs.laws.refused_changes_none.Goals as goal

pub returns : goal.returns
returns c = refused_changes_none
