use Rattle.std.proofs.Common.{◌≡◌, ◌++◌, take}
use Rattle.std.specs.Prelude.{flat_map}
use Rattle.inside_core.specs.Objects.{tally_ends}
use Rattle.inside_core.proofs.objects.push_all_ends.Given as goal

abbrev pub invariant-loop-tally : goal.invariant-loop-tally
invariant-loop-tally l = l.out.items ≡ l.initial.out.items ++ flat_map (tally_ends l.object) (take l.tally-index l.operations)
