use Rattle.value_bytes.proofs.Bytes.{spelling_is_bytes}
use Rattle.value_bytes.proofs.laws.spelling_is_bytes.Goals as goal

pub returns : goal.returns
returns c = spelling_is_bytes
