use Rattle.apply_core.proofs.Theres as theres
use Rattle.apply_core.proofs.strip.bytes_tell.Goals as goal

pub returns : goal.returns
returns c = theres.bytes_tell
