use Rattle.std.proofs.Common.{refl, ◌∙◌}
use Rattle.client_core.specs.Ticks.{seated_by}
use Rattle.client_core.proofs.Places.{ops_kept}
use Rattle.client_core.proofs.holding.Holding.seated.Goals as goal

pub invariant_of-self : goal.invariant_of-self
invariant_of-self c = ops_kept (seated_by c.args.session) (λ t. refl) c.self.inside.ticking.items c.args.place c.seat_at.new.ticking.items c.seat_at.ensures ∙ c.self.invariant
