-- What the faults of a path are called.
use Rattle.std.specs.Prelude.{ℕ, List, codes, Option, Some, None}
use Rattle.path_tree.specs.declared.path_fault.PathFault.{PathFault}
use Rattle.path_tree.specs.declared.path_fault.PathFault.TheVariants as faults

-- the faults have the numbers 1 to 7
abbrev pub fault_number : PathFault → ℕ
fault_number (faults.Expected at) = 1
fault_number (faults.UnknownName at) = 2
fault_number (faults.RepeatedName at) = 3
fault_number (faults.BadBound at) = 4
fault_number (faults.TooDeep at) = 5
fault_number faults.TooMany = 6
fault_number faults.Memory = 7

abbrev pub fault_name : PathFault → List ℕ
fault_name (faults.Expected at) = codes "Expected"
fault_name (faults.UnknownName at) = codes "UnknownName"
fault_name (faults.RepeatedName at) = codes "RepeatedName"
fault_name (faults.BadBound at) = codes "BadBound"
fault_name (faults.TooDeep at) = codes "TooDeep"
fault_name faults.TooMany = codes "TooMany"
fault_name faults.Memory = codes "Memory"

-- where a fault is told; too many nodes and a want of memory have no place
abbrev pub fault_place : PathFault → Option ℕ
fault_place (faults.Expected at) = Some at
fault_place (faults.UnknownName at) = Some at
fault_place (faults.RepeatedName at) = Some at
fault_place (faults.BadBound at) = Some at
fault_place (faults.TooDeep at) = Some at
fault_place faults.TooMany = None
fault_place faults.Memory = None
