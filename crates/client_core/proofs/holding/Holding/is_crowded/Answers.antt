use Rattle.std.proofs.Common.{◌≡◌, sym, ap, subst}
use Rattle.client_core.specs.Holding.{Holding, IsCrowded}
use Rattle.client_core.proofs.Owing.{none_kept}
use Rattle.client_core.proofs.holding.Holding.is_crowded.Goals as goal

pub returns-clause-kept : goal.returns-clause-kept
returns-clause-kept c = λ e unknown full p g longest.
    let held : c.self.inside.holds ≡ c.args.self.now.held = ap (λ (h : Holding). h.held) c.self.view_is in
    none_kept c.args.self.now.held c.args.hosted.now.guests c.args.name.now c.args.second
    (λ crowded. c.is_crowded_by.ensures.no e (subst (λ v. IsCrowded c.self.inside.holds v c.args.name.now c.args.second) (sym c.guests.ensures) (subst (λ xs. IsCrowded xs c.args.hosted.now.guests c.args.name.now c.args.second) (sym held) crowded)))
    unknown full p g longest
