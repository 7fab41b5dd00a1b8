use Rattle.table_core.specs.Seen.{seen}
use Rattle.table_core.proofs.Turning.{way_is_free}
use Rattle.table_core.proofs.table.Table.make_way.Goals as goal

pub returns-in-None : goal.returns-in-None
returns-in-None c = way_is_free c.args.post.now (seen c.args.self.now) c.args.who c.in-None.ensures.none
