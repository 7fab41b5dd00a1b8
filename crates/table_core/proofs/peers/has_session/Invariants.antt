use Rattle.std.proofs.Common.{ℕ, ◌<◌}
use Rattle.table_core.proofs.Seating.{HasNot}
use Rattle.table_core.proofs.peers.has_session.Given as goal

abbrev pub invariant-loop-place : goal.invariant-loop-place
invariant-loop-place l = (k : ℕ) → k < l.place → HasNot l.clients l.at l.session k
