use Rattle.value_bytes.proofs.Unique.{unique_in}
use Rattle.value_bytes.proofs.laws.spelling_unique.Goals as goal

pub returns : goal.returns
returns c = unique_in
