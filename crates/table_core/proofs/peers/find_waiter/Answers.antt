use Rattle.std.proofs.Common.{arith}
use Rattle.table_core.proofs.Seating.{none_waits}
use Rattle.table_core.proofs.peers.find_waiter.Goals as goal

pub returns-clause-none : goal.returns-clause-none
returns-clause-none c = none_waits c.args.clients.now c.args.call.at c.args.call.session c.args.call.told
    (λ place less. c.loop-place.invariant place (let a = c.count-place-end.ensures in let b = c.loop-place-test.false in omega (arith, less, a, b)))
