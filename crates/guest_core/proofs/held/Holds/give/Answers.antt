use Rattle.std.proofs.Common.{◌∙◌, ap, subst, take}
use Rattle.std.specs.Prelude.{remove}
use Rattle.guest_core.specs.Held.{Fits, IsEnded}
use Rattle.guest_core.proofs.Ending.{left_one}
use Rattle.guest_core.proofs.held.Holds.give.Goals as goal

pub returns-in-Some : goal.returns-in-Some
returns-in-Some c =
    left_one _ _ _ c.in-Some.place _ _ c.requires
    (subst (λ h. IsEnded (Fits c.args.rule c.args.arguments.now) c.args.session h c.in-Some.place) (c.split_at.ensures.front ∙ ap (take c.args.count) (c.deref.ensures.value ∙ c.self.view_is)) c.in-Some.ensures)
    (c.remove.ensures.items ∙ ap (λ xs. remove xs c.in-Some.place) c.self.view_is)
