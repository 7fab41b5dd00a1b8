use Rattle.session_core.proofs.Saying.{fresh}
use Rattle.session_core.proofs.output.Output.new.Goals as goal

pub invariant_of-result : goal.invariant_of-result
invariant_of-result g c = fresh g.J.Start.start (g.W.Write.contents c.args.writer) c.new.result.items c.new-2.result.items c.requires c.new.ensures.items c.new-2.ensures.items
