use Rattle.std.proofs.Common.{◌≡◌, ◌++◌, length}
use Rattle.audit_core.specs.Carried.{carried_calls}
use Rattle.recover_core.specs.Carried.{calls_of}
use Rattle.recover_core.proofs.numbers.carried_of.Given as goal

abbrev pub invariant-calls : goal.invariant-calls
invariant-calls l = carried_calls l.all.items ++ calls_of l.rest ≡ calls_of l.calls

abbrev pub decreases-calls : goal.decreases-calls
decreases-calls l = length l.rest
