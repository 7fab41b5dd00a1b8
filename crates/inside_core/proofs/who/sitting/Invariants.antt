use Rattle.std.proofs.Common.{◌≡◌, take}
use Rattle.client_core.specs.State.{peers_of}
use Rattle.client_core.specs.ToldInside.{sitting_from}
use Rattle.inside_core.proofs.who.sitting.Given as goal

abbrev pub invariant-loop-place : goal.invariant-loop-place
invariant-loop-place l = l.all.items ≡ sitting_from 0 l.whom.at l.whom.from (take l.place (peers_of l.clients))
