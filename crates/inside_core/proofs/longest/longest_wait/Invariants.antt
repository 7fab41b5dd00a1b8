use Rattle.inside_core.specs.Adds.{crowd_of}
use Rattle.inside_core.proofs.Awaiting.{LongestBefore}
use Rattle.inside_core.proofs.longest.longest_wait.Given as goal

abbrev pub invariant-loop-k : goal.invariant-loop-k
invariant-loop-k l = LongestBefore (crowd_of l.clients l.whom) l.object l.operation l.k l.longest
