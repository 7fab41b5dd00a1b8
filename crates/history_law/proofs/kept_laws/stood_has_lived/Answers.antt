use Rattle.history_law.proofs.TurnLiving.{stood_has_lived}
use Rattle.history_law.proofs.kept_laws.stood_has_lived.Goals as goal

pub returns : goal.returns
returns c = stood_has_lived
