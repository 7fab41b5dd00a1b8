use Rattle.client_core.specs.Held.{AreSameRows}
use Rattle.client_core.proofs.clients.ClientPlaces.wake.Given as goal

abbrev pub invariant-loop-place : goal.invariant-loop-place
invariant-loop-place l = AreSameRows l.initial.self.rows.items l.self.rows.items
