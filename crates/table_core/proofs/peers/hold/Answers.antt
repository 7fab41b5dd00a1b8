use Rattle.table_core.proofs.Bringing.{on_err}
use Rattle.table_core.proofs.Seating.{holds, same_there}
use Rattle.table_core.proofs.peers.hold.Goals as goal

pub returns-in_err-hold-clause-err : goal.returns-in_err-hold-clause-err
returns-in_err-hold-clause-err c = on_err _ (same_there c.args.clients.now c.hold.new.self c.args.place c.hold.ensures.others c.in_err-hold.ensures.err)

pub returns-clause-ok : goal.returns-clause-ok
returns-clause-ok c = holds c.args.clients.now c.hold.new.self c.ready.new.self c.args.place c.args.line.now c.args.is_whole c.hold.ensures.others c.in_ok-hold.ensures.ok c.ready.ensures
