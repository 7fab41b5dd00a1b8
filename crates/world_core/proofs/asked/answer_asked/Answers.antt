use Rattle.std.proofs.Common.{◌≡◌, ◌∙◌, ap, sym, subst}
use Rattle.decl_core.specs.HoldMap.{holds_of}
use Rattle.world_core.specs.Asked.{Asked, why, who, list, view_of}
use Rattle.world_core.specs.HoldAsked.{IsHeldTold, by_desk}
use Rattle.world_core.proofs.asked.answer_asked.Goals as goal

pub returns-in_ok-answer_who-in-Who : goal.returns-in_ok-answer_who-in-Who
returns-in_ok-answer_who-in-Who c =
    let told = c.in_ok-answer_who-in-Who.ensures in
    (told.0, told.1, subst (λ q. IsHeldTold (holds_of c.args.rules.now) c.args.holds.now c.args.desk.now (view_of q) told.0) (sym c.in-Who.is) told.2)

pub returns-in_ok-push_answer-in-Why : goal.returns-in_ok-push_answer-in-Why
returns-in_ok-push_answer-in-Why c =
    let told = c.in_ok-push_answer-in-Why.ensures in
    (told.0, told.1, by_desk (λ e. let h = ap view_of (sym c.in-Why.is) ∙ e in absurd cc) told.2)

pub returns-in_ok-push_answer-in-List : goal.returns-in_ok-push_answer-in-List
returns-in_ok-push_answer-in-List c =
    let told = c.in_ok-push_answer-in-List.ensures in
    (told.0, told.1, by_desk (λ e. let h = ap view_of (sym c.in-List.is) ∙ e in absurd cc) told.2)
