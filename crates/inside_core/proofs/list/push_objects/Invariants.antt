use Rattle.std.proofs.Common.{◌≡◌, ◌++◌, take}
use Rattle.inside_core.proofs.Listing.{names_text}
use Rattle.inside_core.proofs.list.push_objects.Given as goal

abbrev pub invariant-loop-object : goal.invariant-loop-object
invariant-loop-object l = l.out.items ≡ l.initial.out.items ++ names_text (take l.object-index l.objects)
