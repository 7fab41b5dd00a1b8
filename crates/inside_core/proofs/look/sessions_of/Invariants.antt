use Rattle.std.proofs.Common.{◌≡◌, ◌≤◌, length, take}
use Rattle.client_core.specs.ToldInside.{sitting_from}
use Rattle.client_core.specs.State.{peers_of}
use Rattle.inside_core.proofs.look.sessions_of.Given as goal

abbrev pub invariant-loop-place : goal.invariant-loop-place
invariant-loop-place l = (l.sessions ≡ length (sitting_from 0 l.at 0 (take l.place (peers_of l.clients)))) × (l.sessions ≤ l.place)
