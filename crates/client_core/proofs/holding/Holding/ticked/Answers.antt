use Rattle.std.proofs.Common.{refl, ◌∙◌}
use Rattle.client_core.specs.Ticks.{ticked}
use Rattle.client_core.proofs.Places.{ops_kept}
use Rattle.client_core.proofs.holding.Holding.ticked.Goals as goal

pub invariant_of-self : goal.invariant_of-self
invariant_of-self c = ops_kept (ticked c.args.second) (λ t. refl) c.self.inside.ticking.items c.args.place c.tick_at.new.ticking.items c.tick_at.ensures ∙ c.self.invariant
