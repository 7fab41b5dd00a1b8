use Rattle.std.proofs.Common.{◌≡◌, ◌++◌, take}
use Rattle.std.specs.Prelude.{flat_map}
use Rattle.inside_core.specs.Objects.{tally_now}
use Rattle.inside_core.proofs.objects.push_all_now.Given as goal

abbrev pub invariant-loop-tally : goal.invariant-loop-tally
invariant-loop-tally l = l.out.items ≡ l.initial.out.items ++ flat_map (tally_now l.current l.object) (take l.tally-index l.operations)
