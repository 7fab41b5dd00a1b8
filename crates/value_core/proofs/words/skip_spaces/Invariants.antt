use Rattle.std.proofs.Common.{◌≡◌, length}
use Rattle.value_core.specs.Spaces.{drop_spaces}
use Rattle.value_core.proofs.words.skip_spaces.Given as goal

abbrev pub invariant-spaces : goal.invariant-spaces
invariant-spaces l = drop_spaces l.rest ≡ drop_spaces l.line

abbrev pub decreases-spaces : goal.decreases-spaces
decreases-spaces l = length l.rest
