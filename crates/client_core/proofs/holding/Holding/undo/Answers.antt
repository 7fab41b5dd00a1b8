use Rattle.std.proofs.Common.{subst}
use Rattle.std.specs.Prelude.{IfOk, MatchOption}
use Rattle.decl_core.specs.ObjectMap.{object_of}
use Rattle.guest_core.specs.Places.{IsNewest}
use Rattle.client_core.specs.Holding.{Holding, IsDueOf, NothingIsDueOf}
use Rattle.client_core.proofs.Owing.{due_ok}
use Rattle.client_core.proofs.holding.Holding.undo.Goals as goal

pub returns-in-Some : goal.returns-in-Some
returns-in-Some c =
    let o = object_of c.args.object.now in
    let k = c.in-Some.ensures.0 in
    subst (λ (h : Holding). IfOk c.owed_for.result (λ found. MatchOption found (NothingIsDueOf o h c.args.session) (λ u. IsDueOf o h c.args.session u.operation u.arguments.items))) c.self.view_is
    (due_ok o _ c.args.session k c.in-Some.held.now c.owed_for.result (subst (λ s. IsNewest s c.self.inside.holds k c.in-Some.held.now) c.from.ensures c.in-Some.ensures.1) c.owed_for.ensures)
