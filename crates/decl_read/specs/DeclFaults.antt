-- What the faults of declarations are called.
use Rattle.std.specs.Prelude.{ℕ, List, codes, Option, Some, None}
use Rattle.path_tree.specs.LexFaults as lex_faults
use Rattle.path_tree.specs.PathFaults as path_faults
use Rattle.decl_read.specs.declared.fault.DeclFault.{DeclFault}
use Rattle.decl_read.specs.declared.fault.DeclFault.TheVariants as faults

-- the faults have the numbers 10 to 15; those of the tokens and of a path have their own
abbrev pub fault_number : DeclFault → ℕ
fault_number (faults.Lex fault) = lex_faults.fault_number fault
fault_number (faults.Path fault) = path_faults.fault_number fault
fault_number (faults.Syntax at) = 10
fault_number (faults.DuplicateName at) = 11
fault_number (faults.WrongType at) = 12
fault_number (faults.UnknownName at) = 13
fault_number (faults.TooMany at) = 14
fault_number faults.Memory = 15

abbrev pub fault_name : DeclFault → List ℕ
fault_name (faults.Lex fault) = lex_faults.fault_name fault
fault_name (faults.Path fault) = path_faults.fault_name fault
fault_name (faults.Syntax at) = codes "Syntax"
fault_name (faults.DuplicateName at) = codes "DuplicateName"
fault_name (faults.WrongType at) = codes "WrongType"
fault_name (faults.UnknownName at) = codes "UnknownName"
fault_name (faults.TooMany at) = codes "TooMany"
fault_name faults.Memory = codes "Memory"

-- where a fault is told; a want of memory has no place
abbrev pub fault_place : DeclFault → Option ℕ
fault_place (faults.Lex fault) = lex_faults.fault_place fault
fault_place (faults.Path fault) = path_faults.fault_place fault
fault_place (faults.Syntax at) = Some at
fault_place (faults.DuplicateName at) = Some at
fault_place (faults.WrongType at) = Some at
fault_place (faults.UnknownName at) = Some at
fault_place (faults.TooMany at) = Some at
fault_place faults.Memory = None
