use Rattle.std.proofs.Common.{◌≡◌, ◌∙◌, ◌++◌, [], ap, subst}
use Rattle.std.specs.Prelude.{IfSome}
use Rattle.live_core.specs.Hall.{Hall, IsKept}
use Rattle.live_core.specs.Answers.{carried_from}
use Rattle.live_core.specs.Epochs.{told_behind}
use Rattle.live_core.proofs.live.Live.behind.Goals as goal

pub returns-in-None-clause-held : goal.returns-in-None-clause-held
returns-in-None-clause-held c =
    let t = told_behind c.args.past.now c.args.contents.items in
    let kept = c.carry.ensures.kept t (subst (λ f. IfSome f (λ h. IsKept h t)) c.in-Some.is c.in_ok-hall.ensures.kept) in
    record { kept = kept; rests = c.in-None.ensures.none t kept }

pub returns-in-None-clause-waits : goal.returns-in-None-clause-waits
returns-in-None-clause-waits c =
    let none = subst (λ f. IfSome f (λ (h : Hall). (h.waiting ≡ []) × (h.given ≡ 0))) c.in-Some.is c.in_ok-hall.ensures.none in
    c.in_ok-carry.ensures.waits c.if-not-branch.false ∙ ap (λ ws. ws ++ carried_from c.in-Some.hall.given c.args.carried.items) none.0 ∙ ap (λ n. carried_from n c.args.carried.items) none.1
