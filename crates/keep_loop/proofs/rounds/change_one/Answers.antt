use Rattle.keep_loop.specs.Epochs.{rules_of}
use Rattle.keep_loop.proofs.Kept.{renews_changed, fails_changed, fails_changed_if, on_err}
use Rattle.keep_loop.proofs.rounds.change_one.Goals as goal

pub returns-in_err-went-clause-err : goal.returns-in_err-went-clause-err
returns-in_err-went-clause-err g c =
    on_err _ (fails_changed (rules_of g.O.Served.gives g.O.Served.fronts) c.args.journal c.args.front.now (g.W.Outside.seen c.args.outside.now) (g.W.Outside.seen c.change.new.self) c.args.keep.now c.requires c.in_err-went.ensures.err)

pub returns-in_err-changed-clause-err : goal.returns-in_err-changed-clause-err
returns-in_err-changed-clause-err g c =
    on_err _ (fails_changed_if (rules_of g.O.Served.gives g.O.Served.fronts) c.args.journal c.args.front.now c.in_ok-went.went (g.W.Outside.seen c.args.outside.now) (g.W.Outside.seen c.change.new.self) c.args.keep.now c.requires
    c.in_ok-went.ensures.ok)

pub returns-clause-ok : goal.returns-clause-ok
returns-clause-ok g c =
    renews_changed (rules_of g.O.Served.gives g.O.Served.fronts) c.args.journal c.args.front.now c.in_ok-went.went (g.W.Outside.seen c.args.outside.now) (g.W.Outside.seen c.change.new.self) c.args.keep.now c.changed.new.self c.in_ok-went.ensures.ok
    c.in_ok-changed.ensures.renewed c.in_ok-changed.ensures.stays
