use Rattle.table_core.specs.Seen.{seen}
use Rattle.table_core.proofs.Submitting.{makes_refused, makes_it}
use Rattle.table_core.proofs.table.Table.call_new.Goals as goal

pub returns-in_ok-deny-in-Err : goal.returns-in_ok-deny-in-Err
returns-in_ok-deny-in-Err c = let e = c.in-Err.ensures.err in
    makes_refused c.args.post.now c.ready_for.new.post c.deny.new.post (seen c.args.self.now) (seen c.ready_for.new.self) (seen c.deny.new.self) c.args.asker.place c.args.asker.opened e.0
    c.args.operation c.args.arguments.items c.ready_for.ensures.tells e.1 c.in_ok-deny-in-Err.ensures

pub returns-in_ok-submit-in-Ok : goal.returns-in_ok-submit-in-Ok
returns-in_ok-submit-in-Ok c = makes_it c.args.post.now c.ready_for.new.post c.submit.new.post (seen c.args.self.now) (seen c.ready_for.new.self) (seen c.submit.new.self) c.args.asker.place c.args.asker.opened
    c.in-Ok.ready.seat c.args.operation c.in-Ok.ready.operation c.args.arguments.items c.ready_for.ensures.tells c.in-Ok.ensures.sits c.in-Ok.ensures.asked
    c.in_ok-submit-in-Ok.ensures
