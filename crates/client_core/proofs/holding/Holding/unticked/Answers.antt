use Rattle.std.proofs.Common.{refl, ◌∙◌}
use Rattle.client_core.specs.Ticks.{unticked}
use Rattle.client_core.proofs.Places.{ops_kept}
use Rattle.client_core.proofs.holding.Holding.unticked.Goals as goal

pub invariant_of-self : goal.invariant_of-self
invariant_of-self c = ops_kept (unticked c.args.second) (λ t. refl) c.self.inside.ticking.items c.args.place c.untick_at.new.ticking.items c.untick_at.ensures ∙ c.self.invariant
