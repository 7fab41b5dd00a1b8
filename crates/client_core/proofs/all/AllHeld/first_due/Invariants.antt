use Rattle.client_core.proofs.Becoming.{NoneBefore}
use Rattle.client_core.proofs.all.AllHeld.first_due.Given as goal

abbrev pub invariant-loop-at : goal.invariant-loop-at
invariant-loop-at l = NoneBefore l.second l.self l.at
