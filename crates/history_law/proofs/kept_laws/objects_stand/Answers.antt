use Rattle.history_law.proofs.KeptGoing.{objects_stand}
use Rattle.history_law.proofs.kept_laws.objects_stand.Goals as goal

pub returns : goal.returns
returns c = objects_stand
