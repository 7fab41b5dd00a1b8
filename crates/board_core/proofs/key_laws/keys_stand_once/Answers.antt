use Rattle.board_core.proofs.Keys.{keys_stand_once}
use Rattle.board_core.proofs.key_laws.keys_stand_once.Goals as goal

pub returns : goal.returns
returns c = keys_stand_once
