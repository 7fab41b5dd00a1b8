use Rattle.command_line.proofs.Once.{asks_once}
use Rattle.command_line.proofs.laws.asks_once.Goals as goal

pub returns : goal.returns
returns c = asks_once
