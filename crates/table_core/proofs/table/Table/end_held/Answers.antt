use Rattle.std.proofs.Common.{ap}
use Rattle.table_core.specs.Seen.{seen}
use Rattle.table_core.proofs.Turning.{ok_bool, some_then_all}
use Rattle.table_core.proofs.table.Table.end_held.Goals as goal

pub returns-then-branch : goal.returns-then-branch
returns-then-branch c = some_then_all c.args.post.now c.loop.post c.end_next.new.post (seen c.args.self.now) (seen c.loop.self) (seen c.end_next.new.self) c.args.place c.loop.invariant
    (c.in_ok-end_next.ensures.all (ap ok_bool c.if-branch.true))
