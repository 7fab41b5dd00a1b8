-- The end that a server comes to.
use Rattle.std.specs.Prelude.{◌≡◌, Bool, true, false, Option, Some, None, Result, Ok, Err}
use Rattle.value_core.specs.declared.machine.LinesFault.{LinesFault}
use Rattle.serve_core.specs.declared.serve.ServeEnd.{ServeEnd}
use Rattle.serve_core.specs.declared.serve.ServeEnd.TheVariants.{Whole, Refused}

-- the end of a server: the fault, or else whether a line says that something was refused
abbrev pub IsEndOf : Option LinesFault → Bool → Result ServeEnd LinesFault → Type 0
IsEndOf (Some fault) refused end = end ≡ Err fault
IsEndOf None true end = end ≡ Ok Refused
IsEndOf None false end = end ≡ Ok Whole
