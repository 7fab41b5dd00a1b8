use Rattle.std.specs.Prelude.{◌↔◌}
use Rattle.decl_core.specs.ObjectMap.{object_of}
use Rattle.decl_core.specs.Rest.{IsRestOf}
use Rattle.decl_core.proofs.uncalled.checked_row.Given as goal

abbrev pub invariant-loop-second : goal.invariant-loop-second
invariant-loop-second l =
    IsRestOf (object_of l.object) l.first l.first l.entries
    ↔ IsRestOf (object_of l.object) l.first l.second l.rest
