use Rattle.keep_loop.specs.Epochs.{rules_of}
use Rattle.std.proofs.Common.{sym, subst}
use Rattle.keep_loop.specs.Stands.{Fails, Honest}
use Rattle.keep_loop.proofs.Kept.{fails_added, keeps_settled, on_err}
use Rattle.keep_loop.proofs.rounds.settle_one.Goals as goal

pub returns-in_err-append-clause-err : goal.returns-in_err-append-clause-err
returns-in_err-append-clause-err g c =
    on_err _ (fails_added (rules_of g.O.Served.gives g.O.Served.fronts) c.args.journal c.lines-2.result.now (g.W.Outside.seen c.args.outside.now) (g.W.Outside.seen c.append.new.self) c.args.keep.now c.append.ensures c.lines-2.ensures)

pub returns-in_err-sync_if-clause-err : goal.returns-in_err-sync_if-clause-err
returns-in_err-sync_if-clause-err g c =
    let failed : Fails (rules_of g.O.Served.gives g.O.Served.fronts) (g.W.Outside.seen c.args.outside.now) c.args.keep.now (g.W.Outside.seen c.sync_if.new.outside) =
    λ first limits good. subst (λ o. Honest (rules_of g.O.Served.gives g.O.Served.fronts) first limits o) (sym c.in_err-sync_if.ensures.err)
    (fails_added (rules_of g.O.Served.gives g.O.Served.fronts) c.args.journal c.lines-2.result.now (g.W.Outside.seen c.args.outside.now) (g.W.Outside.seen c.append.new.self) c.args.keep.now c.append.ensures c.lines-2.ensures first limits good) in
    on_err _ failed

pub returns-clause-ok : goal.returns-clause-ok
returns-clause-ok g c =
    keeps_settled (rules_of g.O.Served.gives g.O.Served.fronts) c.args.journal c.lines-2.result.now (g.W.Outside.seen c.args.outside.now) (g.W.Outside.seen c.append.new.self) (g.W.Outside.seen c.sync_if.new.outside)
    c.args.keep.now c.hand.new.self c.append.ensures c.in_ok-sync_if.ensures.stored c.sync_if.ensures.none c.lines-2.ensures
    c.hand.ensures.object c.hand.ensures.held c.hand.ensures.base c.hand.ensures.limits c.hand.ensures.places c.hand.ensures.count c.hand.ensures.lines
