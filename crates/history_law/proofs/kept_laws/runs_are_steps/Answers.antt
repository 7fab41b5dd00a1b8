use Rattle.history_law.proofs.KeptGoing.{runs_are_steps}
use Rattle.history_law.proofs.kept_laws.runs_are_steps.Goals as goal

pub returns : goal.returns
returns c = runs_are_steps
