use Rattle.history_law.proofs.Apart.{read_are_apart}
use Rattle.history_law.proofs.hold_laws.read_are_apart.Goals as goal

pub returns : goal.returns
returns c = read_are_apart
