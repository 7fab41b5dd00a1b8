use Rattle.history_law.proofs.Objects.{read_are_named}
use Rattle.history_law.proofs.named_laws.read_are_named.Goals as goal

pub returns : goal.returns
returns c = read_are_named
