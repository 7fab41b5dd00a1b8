use Rattle.table_core.proofs.Hinting.{is_dropped}
use Rattle.table_core.proofs.hints.drop_feed.Goals as goal

pub returns-in-Some : goal.returns-in-Some
returns-in-Some c = is_dropped c.args.out.now.items c.pop.new.self.items c.in-Some.field-0 c.in-Some.ensures.items
