use Rattle.std.proofs.Common.{◌≡◌, [], subst}
use Rattle.session_core.proofs.Saying.{was_sent, was_cut, not_so}
use Rattle.session_core.proofs.output.Output.flush.Goals as goal

pub invariant_of-self : goal.invariant_of-self
invariant_of-self g c = was_cut g.J.Start.start (g.W.Write.contents c.self.inside.writer) (g.W.Write.contents c.send.new.writer) c.self.inside.held.items c.send.new.held.items c.self.inside.notes.items c.self.inside.at
    c.self.inside.health c.is_stopped.result c.send.result (subst (λ w. w ≡ [] → ⊥) c.deref.ensures.value (not_so c.is_none.result c.if-is_none.false c.is_none.ensures.1)) c.is_stopped.ensures.1 c.if-is_stopped.false c.if-not-send.true
    c.self.invariant c.send.ensures

pub invariant_of-self-2 : goal.invariant_of-self-2
invariant_of-self-2 g c = was_sent g.J.Start.start (g.W.Write.contents c.self.inside.writer) (g.W.Write.contents c.send.new.writer) c.self.inside.held.items c.send.new.held.items c.self.inside.notes.items c.self.inside.at
    c.self.inside.health c.is_stopped.result c.send.result c.is_stopped.ensures.1 c.if-is_stopped.false c.if-not-send.false c.self.invariant c.send.ensures
