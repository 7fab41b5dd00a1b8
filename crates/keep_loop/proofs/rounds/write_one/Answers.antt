use Rattle.keep_loop.specs.Epochs.{rules_of}
use Rattle.keep_loop.proofs.Kept.{fails_wrote, sends_wrote, on_err}
use Rattle.keep_loop.proofs.rounds.write_one.Goals as goal

pub returns-in_err-wrote-in-Some-clause-err : goal.returns-in_err-wrote-in-Some-clause-err
returns-in_err-wrote-in-Some-clause-err g c =
    on_err _ (fails_wrote (rules_of g.O.Served.gives g.O.Served.fronts) c.args.who c.in-Some.n c.owed.result.now (g.W.Outside.seen c.args.outside.now) (g.W.Outside.seen c.write.new.self) c.args.keep.now c.in-Some.ensures.took
    (c.owed.ensures c.requires) c.requires)

pub returns-in_ok-wrote-in-Some-clause-ok : goal.returns-in_ok-wrote-in-Some-clause-ok
returns-in_ok-wrote-in-Some-clause-ok g c =
    sends_wrote (rules_of g.O.Served.gives g.O.Served.fronts) c.args.who c.in-Some.n c.owed.result.now (g.W.Outside.seen c.args.outside.now) (g.W.Outside.seen c.write.new.self) c.args.keep.now c.wrote.new.self c.in-Some.ensures.took
    (c.owed.ensures c.requires) c.in_ok-wrote-in-Some.ensures.rests
