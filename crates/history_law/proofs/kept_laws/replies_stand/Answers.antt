use Rattle.history_law.proofs.TurnReplying.{replies_stand}
use Rattle.history_law.proofs.kept_laws.replies_stand.Goals as goal

pub returns : goal.returns
returns c = replies_stand
