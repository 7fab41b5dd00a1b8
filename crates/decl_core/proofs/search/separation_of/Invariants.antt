use Rattle.decl_core.specs.ObjectMap.{object_of}
use Rattle.decl_core.proofs.Searching.{NoneWithin}
use Rattle.decl_core.proofs.search.separation_of.Given as goal

abbrev pub invariant-loop-place : goal.invariant-loop-place
invariant-loop-place l = NoneWithin (object_of l.object) l.place l.first l.second
