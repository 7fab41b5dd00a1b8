use Rattle.keep_loop.specs.Epochs.{rules_of}
use Rattle.keep_loop.proofs.Kept.{sends_synced}
use Rattle.keep_loop.proofs.rounds.store_one.Goals as goal

pub returns-clause-ok : goal.returns-clause-ok
returns-clause-ok g c =
    sends_synced (rules_of g.O.Served.gives g.O.Served.fronts) c.args.journal (g.W.Outside.seen c.args.outside.now) (g.W.Outside.seen c.sync.new.self) c.args.keep.now c.requires c.in_ok-sync.ensures.ok
