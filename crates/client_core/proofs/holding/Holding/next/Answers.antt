use Rattle.std.proofs.Common.{◌≡◌, ◌≢◌, ℕ, ap, ◌∙◌, subst, take, Some}
use Rattle.std.specs.Prelude.{All, MatchOption, slice_get}
use Rattle.client_core.specs.declared.holder.Holder.{Holder}
use Rattle.client_core.specs.declared.holder.WhenDue.TheVariants.{Now}
use Rattle.client_core.specs.Holding.{Holding}
use Rattle.client_core.proofs.holding.Holding.next.Goals as goal

pub returns : goal.returns
returns c =
    let gone : c.deref.result.now ≡ c.args.self.now.gone = c.deref.ensures.value ∙ ap (λ (h : Holding). h.gone) c.self.view_is in
    subst (λ xs. MatchOption c.first_now.result (All (λ (g : Holder). g.when ≢ Now) xs) (λ g. (k : ℕ) × (slice_get xs k ≡ Some g) × (g.when ≡ Now) × All (λ (h : Holder). h.when ≢ Now) (take k xs))) gone c.first_now.ensures
