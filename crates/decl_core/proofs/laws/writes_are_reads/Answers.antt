use Rattle.decl_core.proofs.Footprints.{writes_are_reads}
use Rattle.decl_core.proofs.laws.writes_are_reads.Goals as goal

pub returns : goal.returns
returns c = writes_are_reads
