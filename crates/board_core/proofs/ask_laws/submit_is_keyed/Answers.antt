use Rattle.board_core.proofs.Keying.{submit_is_keyed}
use Rattle.board_core.proofs.ask_laws.submit_is_keyed.Goals as goal

pub returns : goal.returns
returns c = submit_is_keyed
