-- What a server met.
use Rattle.std.specs.Prelude.{Option, Some, None, Result, Ok, Err}
use Rattle.std.specs.declared.alloc.AllocError.{AllocError}
use Rattle.value_core.specs.declared.machine.LinesFault.{LinesFault}
use Rattle.value_core.specs.declared.machine.LinesFault.TheVariants.{Memory}

-- the first of two faults, each of which may not be there
abbrev pub first_of : Option LinesFault → Option LinesFault → Option LinesFault
first_of (Some fault) later = Some fault
first_of None later = later

-- the fault of a result
abbrev pub fault_in : Result (Unit {0}) LinesFault → Option LinesFault
fault_in (Ok done) = None
fault_in (Err fault) = Some fault

-- the fault of a result where only memory can be refused
abbrev pub memory_in : Result (Unit {0}) AllocError → Option LinesFault
memory_in (Ok done) = None
memory_in (Err fault) = Some Memory
