use Rattle.history_law.proofs.OrderRuns.{ends_are_told_once}
use Rattle.history_law.proofs.talk_laws.ends_are_told_once.Goals as goal

pub returns : goal.returns
returns c = ends_are_told_once
