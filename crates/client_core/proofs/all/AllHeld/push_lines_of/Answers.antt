use Rattle.std.proofs.Common.{◌≡◌, ◌∙◌, ap, ℕ, List, ◌++◌}
use Rattle.decl_core.specs.ObjectMap.{object_of}
use Rattle.decl_core.specs.HoldForm.{RulesForm}
use Rattle.decl_core.specs.HoldMap.{holds_of}
use Rattle.client_core.specs.Views.{custodies_of}
use Rattle.client_core.proofs.Placing.{lines_are, some_at}
use Rattle.client_core.proofs.all.AllHeld.push_lines_of.Goals as goal

pub returns-in_ok-push_held-in-Some : goal.returns-in_ok-push_held-in-Some
returns-in_ok-push_held-in-Some c =
    let same : c.object.result.now ≡ c.args.object.now.hall.object = (let a = c.object.ensures in let b = c.live.ensures in cc) in
    c.in_ok-push_held-in-Some.ensures
    ∙ ap (λ (l : List ℕ). c.args.front.now.items ++ l)
    (lines_are (object_of c.args.object.now.hall.object) (object_of c.object.result.now) (holds_of c.deref.result.now) c.holds.result.now
    c.in-Some.holding.now (custodies_of c.args.self.now) c.args.at (ap object_of same)
    (ap holds_of c.deref.ensures.value ∙ ap (λ (r : RulesForm). r.holds) c.rules.ensures) c.holds.ensures (some_at c.args.self.now c.args.at c.in-Some.holding.now c.in-Some.ensures))
