-- Reasons without where they lie in memory.
use Rattle.std.specs.Prelude.{List, map}
use Rattle.stuck_core.specs.declared.reason.Reason.{Reason}
use Rattle.stuck_core.specs.Lacks.{Why}

abbrev pub why_of : Reason → Why
why_of r = record { path = r.path; node = r.node; lack = r.lack; needs = r.needs.items }

abbrev pub whys_of : List Reason → List Why
whys_of all = map why_of all
