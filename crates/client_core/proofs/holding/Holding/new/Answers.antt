use Rattle.std.proofs.Common.{ap, ◌∙◌, map}
use Rattle.decl_core.specs.HoldMap.{everies_of}
use Rattle.client_core.specs.Ticks.{first_tick}
use Rattle.client_core.proofs.Places.{ops_first, ops_of}
use Rattle.client_core.proofs.holding.Holding.new.Goals as goal

pub invariant_of-result : goal.invariant_of-result
invariant_of-result c =
    ap ops_of (c.in_ok-ticking.ensures ∙ ap (λ es. map first_tick (everies_of es)) c.deref.ensures.value) ∙ ops_first (everies_of c.args.rules.everies.items)
