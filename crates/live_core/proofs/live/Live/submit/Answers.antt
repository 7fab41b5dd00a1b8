use Rattle.std.proofs.Common.{◌∙◌, ◌++◌, sym, ap, subst}
use Rattle.live_core.specs.Hall.{IsHeld}
use Rattle.live_core.specs.Settles.{with_all}
use Rattle.live_core.proofs.Settling.{held_of}
use Rattle.live_core.proofs.live.Live.submit.Goals as goal

pub invariant_of-self-in-Ok-join : goal.invariant_of-self-in-Ok-join
invariant_of-self-in-Ok-join c =
    let t = c.self.invariant.0 in
    let to = c.settle.ensures.settles t (c.in-Ok-join.ensures.kept t c.self.invariant.1.kept) in
    (with_all t to.0, held_of c.join.new.self c.settle.new.self t to.0 c.settle.ensures.same.fixed.object to.2)

pub returns-in-Ok-join-clause-held : goal.returns-in-Ok-join-clause-held
returns-in-Ok-join-clause-held c = λ t held.
    let to = c.settle.ensures.settles t (c.in-Ok-join.ensures.kept t (subst (λ h. IsHeld h t) (sym c.self.view_is) held).kept) in
    subst (λ xs. IsHeld c.settle.new.self (with_all t xs)) (sym (to.1 ∙ ap (λ xs. xs ++ to.0) c.in-Ok.ensures.items))
    (held_of c.join.new.self c.settle.new.self t to.0 c.settle.ensures.same.fixed.object to.2)
