use Rattle.session_core.proofs.Saying.{was_lost}
use Rattle.session_core.proofs.output.Output.lose.Goals as goal

pub invariant_of-self : goal.invariant_of-self
invariant_of-self g c = was_lost g.J.Start.start (g.W.Write.contents c.self.inside.writer) c.self.inside.held.items c.self.inside.health c.self.inside.notes.items c.self.inside.at (c.is_fine.ensures.0 c.if-not-is_fine.false)
    c.self.invariant
