use Rattle.table_core.specs.Seen.{seen}
use Rattle.table_core.proofs.Settling.{settled}
use Rattle.table_core.proofs.table.Table.settle.Goals as goal

pub returns : goal.returns
returns c = settled c.args.post.now c.go_on.new.post c.settle_all.new.post (seen c.args.self.now) (seen c.go_on.new.self) (seen c.settle_all.new.self)
    c.in_ok-go_on.ensures c.in_ok-settle_all.ensures
