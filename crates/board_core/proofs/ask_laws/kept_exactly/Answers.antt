use Rattle.board_core.proofs.Keying.{kept_exactly}
use Rattle.board_core.proofs.ask_laws.kept_exactly.Goals as goal

pub returns : goal.returns
returns c = kept_exactly
