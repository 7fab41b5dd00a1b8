use Rattle.table_core.specs.Seen.{seen}
use Rattle.table_core.proofs.Turning.{ends_again}
use Rattle.table_core.proofs.table.Table.end_for.Goals as goal

pub returns-then-asks_again : goal.returns-then-asks_again
returns-then-asks_again c = ends_again c.args.post.now (seen c.args.self.now) (seen c.go.new.self) c.args.place (c.asks_again.ensures.yes c.if-asks_again.true) c.in_ok-go.ensures
