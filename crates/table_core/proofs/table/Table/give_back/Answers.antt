use Rattle.table_core.specs.Seen.{seen}
use Rattle.table_core.proofs.Settling.{settles_free}
use Rattle.table_core.proofs.table.Table.give_back.Goals as goal

pub returns-in-None : goal.returns-in-None
returns-in-None c = settles_free c.args.post.now (seen c.args.self.now) (seen c.let_leave.new.self) c.args.at c.args.one.session c.let_leave.ensures
