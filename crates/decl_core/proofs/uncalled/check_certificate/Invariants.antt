use Rattle.std.specs.Prelude.{◌↔◌}
use Rattle.decl_core.specs.ObjectMap.{object_of}
use Rattle.decl_core.specs.Rest.{IsRestOf}
use Rattle.decl_core.proofs.uncalled.check_certificate.Given as goal

abbrev pub invariant-loop-first : goal.invariant-loop-first
invariant-loop-first l =
    IsRestOf (object_of l.object) 0 0 l.certificate.entries.items
    ↔ IsRestOf (object_of l.object) l.first l.first l.rest
