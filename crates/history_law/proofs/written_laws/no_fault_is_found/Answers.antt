use Rattle.history_law.proofs.WrittenReading.{no_fault_is_found}
use Rattle.history_law.proofs.written_laws.no_fault_is_found.Goals as goal

pub returns : goal.returns
returns c = no_fault_is_found
