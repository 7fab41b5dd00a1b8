use Rattle.std.proofs.Common.{◌≡◌, length}
use Rattle.recover_core.specs.Stray.{past_zero}
use Rattle.recover_core.proofs.said.behind_zero.Given as goal

abbrev pub invariant-bytes : goal.invariant-bytes
invariant-bytes l = past_zero l.rest ≡ past_zero l.file

abbrev pub decreases-bytes : goal.decreases-bytes
decreases-bytes l = length l.rest
