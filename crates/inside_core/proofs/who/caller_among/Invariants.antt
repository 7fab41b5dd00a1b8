use Rattle.std.proofs.Common.{◌≡◌, ◌≤◌, ℕ, take, length}
use Rattle.std.specs.Prelude.{false}
use Rattle.client_core.specs.declared.client.OpenObject.{OpenObject}
use Rattle.live_core.specs.Hall.{Every}
use Rattle.client_core.specs.ToldInside.{calls_at}
use Rattle.inside_core.specs.Adds.{crowd_of}
use Rattle.inside_core.proofs.who.caller_among.Given as goal

abbrev pub invariant-loop-k : goal.invariant-loop-k
invariant-loop-k l = (l.k ≤ length l.seats)
    × Every (λ (seat : ℕ × OpenObject). calls_at (crowd_of l.clients l.whom) l.session l.told seat.0 ≡ false) (take l.k l.seats)
