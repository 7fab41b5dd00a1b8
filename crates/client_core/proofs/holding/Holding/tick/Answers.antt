use Rattle.std.proofs.Common.{◌≡◌, ap, ◌∙◌, subst, Some}
use Rattle.std.specs.Prelude.{IfSome, slice_get}
use Rattle.decl_core.specs.HoldForm.{EveryForm}
use Rattle.decl_core.specs.HoldMap.{everies_of}
use Rattle.client_core.specs.Holding.{Holding}
use Rattle.client_core.proofs.Places.{every_found}
use Rattle.client_core.proofs.holding.Holding.tick.Goals as goal

pub returns-clause-every : goal.returns-clause-every
returns-clause-every c =
    subst (λ (h : Holding). IfSome c.tick_in.result (λ t. (e : EveryForm) × (slice_get h.rules.everies c.args.place ≡ Some e) × (t.op ≡ e.op))) c.self.view_is
    (every_found c.tick_in.result c.self.inside.ticking.items (everies_of c.self.inside.rules.everies.items) c.args.place c.self.invariant (c.tick_in.ensures ∙ ap (λ xs. slice_get xs c.args.place) c.deref.ensures.value))
