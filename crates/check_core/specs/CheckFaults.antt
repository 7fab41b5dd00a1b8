-- What the faults of a check are called.
use Rattle.std.specs.Prelude.{ℕ, List, codes}
use Rattle.check_core.specs.declared.report.CheckFault.{CheckFault}
use Rattle.check_core.specs.declared.report.CheckFault.TheVariants as faults

abbrev pub fault_number : CheckFault → ℕ
fault_number faults.WriteFault = 1
fault_number faults.Memory = 2

abbrev pub fault_name : CheckFault → List ℕ
fault_name faults.WriteFault = codes "WriteFault"
fault_name faults.Memory = codes "Memory"
