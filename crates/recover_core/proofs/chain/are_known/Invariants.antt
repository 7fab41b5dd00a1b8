use Rattle.std.proofs.Common.{length}
use Rattle.recover_core.specs.Chain.{AreKnown}
use Rattle.recover_core.proofs.chain.are_known.Given as goal

abbrev pub invariant-clients : goal.invariant-clients
invariant-clients l = AreKnown l.guests l.clients_left l.kept_left → AreKnown l.guests l.clients l.kept

abbrev pub decreases-clients : goal.decreases-clients
decreases-clients l = length l.clients_left
