use Rattle.std.proofs.Common.{rules}
use Rattle.known_core.proofs.Undoing.{one_more}
use Rattle.known_core.proofs.logged.set.Goals as goal

pub returns-clause-back : goal.returns-clause-back
returns-clause-back c =
    one_more c.args.log.now.items c.push_reserved.new.self.items c.args.parts.now.items c.args.part c.place.result c.set.new.self c.index_mut-value.result.now c.in_ok-undo.undo (search rules) (search rules) (search rules) c.in_ok-undo.ensures.change.1 (search rules)
