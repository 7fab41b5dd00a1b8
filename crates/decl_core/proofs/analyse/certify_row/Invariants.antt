use Rattle.decl_core.specs.ObjectMap.{object_of}
use Rattle.decl_core.specs.Rest.{IsCertified}
use Rattle.decl_core.proofs.analyse.certify_row.Given as goal

abbrev pub invariant-loop-second : goal.invariant-loop-second
invariant-loop-second l = IsCertified (object_of l.object) l.first l.second l.entries.items
