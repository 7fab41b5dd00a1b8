use Rattle.audit_core.proofs.Cutting.{cut_played}
use Rattle.audit_core.proofs.epoch_laws.cut_is_played.Goals as goal

pub returns : goal.returns
returns c = cut_played
