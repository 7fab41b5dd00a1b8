use Rattle.decl_core.specs.HoldMap.{holds_of}
use Rattle.world_core.proofs.Giving.{AreGiven}
use Rattle.world_core.proofs.back.give_back.Given as goal

abbrev pub invariant-sessions : goal.invariant-sessions
invariant-sessions l = AreGiven (holds_of l.rules) l.holds l.fn.world l.gone l.place l.fn.out.items l.out.items l.world
