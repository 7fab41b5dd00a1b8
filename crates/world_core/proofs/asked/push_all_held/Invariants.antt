use Rattle.decl_core.specs.ObjectMap.{object_of}
use Rattle.decl_core.specs.HoldMap.{holds_of}
use Rattle.world_core.proofs.HoldAsking.{AreTold}
use Rattle.world_core.proofs.asked.push_all_held.Given as goal

abbrev pub invariant-held : goal.invariant-held
invariant-held l = AreTold (object_of l.object) (holds_of l.rules) l.held l.place l.fn.out.items l.out.items
