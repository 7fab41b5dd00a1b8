use Rattle.std.proofs.Common.{◌≡◌, take, map}
use Rattle.decl_core.specs.HoldMap.{everies_of}
use Rattle.client_core.specs.Ticks.{first_tick}
use Rattle.client_core.proofs.ticking.first_ticks.Given as goal

abbrev pub invariant-loop-every : goal.invariant-loop-every
invariant-loop-every l = l.all.items ≡ map first_tick (everies_of (take l.every-index l.everies))
