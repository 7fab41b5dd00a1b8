use Rattle.std.proofs.Common.{subst, sym, ◌∙◌}
use Rattle.session_core.specs.Written.{IsHeld}
use Rattle.session_core.proofs.Saying.{was_taken, was_mixed}
use Rattle.session_core.proofs.output.Output.take.Goals as goal

pub invariant_of-self : goal.invariant_of-self
invariant_of-self g c = was_mixed g.J.Start.start (g.W.Write.contents c.self.inside.writer) c.self.inside.held.items c.self.inside.health c.self.inside.notes.items c.self.inside.at (c.is_fine.ensures.0 c.if-not-is_fine.false)
    c.self.invariant

pub invariant_of-self-2 : goal.invariant_of-self-2
invariant_of-self-2 g c = was_taken g.J.Start.start (g.W.Write.contents c.self.inside.writer) c.self.inside.held.items c.args.more.now.0 c.hand_over.new.self.0 c.hand_over.new.to.items c.self.inside.notes.items c.args.more.now.1
    c.hand_over.new.self.1 c.hand_over.new.noted.items c.args.more.now.2 c.self.inside.at c.at-at.result c.self.inside.health c.hand_over.result c.hand_over.ensures.empty (c.is_fine.ensures.0 c.if-not-is_fine.false)
    (sym c.first.ensures ∙ c.is_same.ensures.0 c.if-not-is_same.false) c.if-not-hand_over.false c.self.invariant
    (subst (λ s. IsHeld c.args.more.now.0 c.args.more.now.1 c.args.more.now.2 s) (sym c.at-at.ensures) c.hand_over.ensures.held) c.hand_over.ensures.over
