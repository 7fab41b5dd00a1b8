use Rattle.table_core.specs.Seen.{seen}
use Rattle.table_core.proofs.Settling.{owed_again}
use Rattle.table_core.proofs.table.Table.tick_now.Goals as goal

pub call_for-requires : goal.call_for-requires
call_for-requires c = owed_again (seen c.args.self.now) c.args.at c.args.session c.in-Some.one.op c.args.place c.new.result.items c.new.ensures.items c.in-Some.ensures.every
