use Rattle.client_core.proofs.Turning.{turns_move}
use Rattle.client_core.proofs.laws.turns_move.Goals as goal

pub returns : goal.returns
returns c = turns_move
