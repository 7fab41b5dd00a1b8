use Rattle.std.proofs.Common.{◌≡◌, ◌++◌, length}
use Rattle.decl_core.specs.ObjectMap.{object_of}
use Rattle.stuck_core.specs.Places.{places_of}
use Rattle.check_core.specs.Lines.{wait_lines_of}
use Rattle.check_core.proofs.lines.push_places.Given as goal

abbrev pub invariant-places : goal.invariant-places
invariant-places l = l.out.items ++ wait_lines_of (object_of l.object) l.op l.path (places_of l.rest) ≡ l.fn.out.items ++ wait_lines_of (object_of l.object) l.op l.path (places_of l.places)

abbrev pub decreases-places : goal.decreases-places
decreases-places l = length l.rest
