use Rattle.keep_loop.specs.Epochs.{rules_of}
use Rattle.keep_loop.specs.Seen.Happened.{Broke}
use Rattle.keep_loop.proofs.Kept.{keeps_event, fails_broke, on_err}
use Rattle.keep_loop.proofs.rounds.give_up.Goals as goal

pub returns-in_err-broke-clause-err : goal.returns-in_err-broke-clause-err
returns-in_err-broke-clause-err g c =
    on_err c.from_residual.result (fails_broke (rules_of g.O.Served.gives g.O.Served.fronts) c.args.who (g.W.Outside.seen c.args.outside.now) (g.W.Outside.seen c.is_over.new.self) c.args.keep.now
    (c.is_over.ensures.over c.if-not-is_over.false))

pub returns-clause-ok : goal.returns-clause-ok
returns-clause-ok g c =
    keeps_event (rules_of g.O.Served.gives g.O.Served.fronts) (Broke c.args.who) (g.W.Outside.seen c.args.outside.now) (g.W.Outside.seen c.is_over.new.self) c.args.keep.now c.broke.new.self
    (c.is_over.ensures.over c.if-not-is_over.false) c.in_ok-broke.ensures.stands
