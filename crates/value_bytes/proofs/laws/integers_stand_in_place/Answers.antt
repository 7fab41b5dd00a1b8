use Rattle.value_bytes.proofs.Unique.{stand_in_place}
use Rattle.value_bytes.proofs.laws.integers_stand_in_place.Goals as goal

pub returns : goal.returns
returns c = stand_in_place
