use Rattle.decl_core.specs.ObjectMap.{object_of}
use Rattle.decl_core.specs.Rest.{IsCertified}
use Rattle.decl_core.proofs.analyse.certify.Given as goal

abbrev pub invariant-loop-first : goal.invariant-loop-first
invariant-loop-first l = IsCertified (object_of l.object) l.first l.first l.entries.items
