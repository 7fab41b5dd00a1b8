use Rattle.std.proofs.Common.{◌≡◌}
use Rattle.std.proofs.lemmas.Option.{IfSome_then}
use Rattle.table_core.proofs.Seating.{takes, take_none}
use Rattle.table_core.proofs.peers.take.Goals as goal

pub returns-clause-some : goal.returns-clause-some
returns-clause-some c =
    IfSome_then c.take.result c.take.ensures.some (λ asked taken. takes c.args.clients.now c.take.new.self c.args.place asked c.take.ensures.others taken)

pub returns-clause-none : goal.returns-clause-none
returns-clause-none c = take_none c.args.clients.now c.args.place c.take.result (c.take.new.self ≡ c.args.clients.now) c.take.ensures.none
