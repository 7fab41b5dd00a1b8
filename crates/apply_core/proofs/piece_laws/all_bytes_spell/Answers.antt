use Rattle.apply_core.proofs.PieceSpelled.{all_bytes_spell}
use Rattle.apply_core.proofs.piece_laws.all_bytes_spell.Goals as goal

pub returns : goal.returns
returns c = all_bytes_spell
