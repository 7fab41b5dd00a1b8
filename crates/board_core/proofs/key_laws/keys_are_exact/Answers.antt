use Rattle.board_core.proofs.Keys.{keys_are_exact}
use Rattle.board_core.proofs.key_laws.keys_are_exact.Goals as goal

pub returns : goal.returns
returns c = keys_are_exact
