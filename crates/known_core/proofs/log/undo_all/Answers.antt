use Rattle.std.proofs.Common.{rules}
use Rattle.known_core.proofs.Undoing.{one_less}
use Rattle.known_core.proofs.log.undo_all.Goals as goal

pub loop-preserved : goal.loop-preserved
loop-preserved c =
    (one_less c.loop.log.items c.pop.new.self.items c.in-Some.step c.loop.parts.items c.undo_one.new.parts.items _ (search rules) c.undo_one.ensures c.loop.invariant.0, search rules)
