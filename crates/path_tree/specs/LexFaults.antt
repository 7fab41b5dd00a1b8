-- What the faults of a source are called.
use Rattle.std.specs.Prelude.{ℕ, List, codes, Option, Some, None}
use Rattle.path_tree.specs.declared.lex.fault.LexFault.{LexFault}
use Rattle.path_tree.specs.declared.lex.fault.LexFault.TheVariants as faults

-- the faults have the numbers 1 to 6
abbrev pub fault_number : LexFault → ℕ
fault_number faults.TooLong = 1
fault_number (faults.BadByte at) = 2
fault_number (faults.OpenComment at) = 3
fault_number (faults.OpenString at) = 4
fault_number (faults.BadNumber at) = 5
fault_number faults.Memory = 6

abbrev pub fault_name : LexFault → List ℕ
fault_name faults.TooLong = codes "TooLong"
fault_name (faults.BadByte at) = codes "BadByte"
fault_name (faults.OpenComment at) = codes "OpenComment"
fault_name (faults.OpenString at) = codes "OpenString"
fault_name (faults.BadNumber at) = codes "BadNumber"
fault_name faults.Memory = codes "Memory"

-- where a fault is told; a source that is too long and a want of memory have no place
abbrev pub fault_place : LexFault → Option ℕ
fault_place faults.TooLong = None
fault_place (faults.BadByte at) = Some at
fault_place (faults.OpenComment at) = Some at
fault_place (faults.OpenString at) = Some at
fault_place (faults.BadNumber at) = Some at
fault_place faults.Memory = None
