use Rattle.keep_loop.specs.Epochs.{rules_of}
use Rattle.keep_loop.proofs.Ended.{ends_then, fails_settled}
use Rattle.keep_loop.proofs.Kept.{on_err}
use Rattle.keep_loop.proofs.rounds.conclude.Goals as goal

pub returns-in_err-store_last-clause-err : goal.returns-in_err-store_last-clause-err
returns-in_err-store_last-clause-err g c =
    on_err _ (fails_settled (rules_of g.O.Served.gives g.O.Served.fronts) (g.W.Outside.seen c.args.outside.now) (g.W.Outside.seen c.settle.new.outside) (g.W.Outside.seen c.store_last.new.outside) c.args.keep.now c.settle.new.keep
    c.in_ok-settle.ensures.ok c.in_err-store_last.ensures.err)

pub returns-clause-ok : goal.returns-clause-ok
returns-clause-ok g c =
    ends_then (rules_of g.O.Served.gives g.O.Served.fronts) (g.W.Outside.seen c.args.outside.now) (g.W.Outside.seen c.settle.new.outside) (g.W.Outside.seen c.store_last.new.outside) c.args.keep.now c.settle.new.keep
    c.settle.new.keep.object c.in_ok-settle.ensures.ok c.in_ok-store_last.ensures.ok
