use Rattle.keep_loop.specs.Epochs.{rules_of}
use Rattle.keep_loop.proofs.Ended.{honest_first, good_first, honest_of_ended, ended_of}
use Rattle.keep_loop.proofs.rounds.run.Goals as goal

pub returns-in_err-keep-clause-honest : goal.returns-in_err-keep-clause-honest
returns-in_err-keep-clause-honest g c = honest_first (rules_of g.O.Served.gives g.O.Served.fronts) c.args.object c.args.limits (g.W.Outside.seen c.args.outside.now) c.requires

pub returns-in_err-serve-clause-honest : goal.returns-in_err-serve-clause-honest
returns-in_err-serve-clause-honest g c =
    c.in_err-serve.ensures.err c.args.object c.args.limits
    (good_first (rules_of g.O.Served.gives g.O.Served.fronts) c.args.object c.args.limits (g.W.Outside.seen c.args.outside.now) c.in_ok-keep.keep c.requires c.in_ok-keep.ensures.stands)

pub returns-in_err-conclude-clause-honest : goal.returns-in_err-conclude-clause-honest
returns-in_err-conclude-clause-honest g c =
    c.in_err-conclude.ensures.err c.args.object c.args.limits (c.in_ok-serve.ensures.ok c.args.object c.args.limits
    (good_first (rules_of g.O.Served.gives g.O.Served.fronts) c.args.object c.args.limits (g.W.Outside.seen c.args.outside.now) c.in_ok-keep.keep c.requires c.in_ok-keep.ensures.stands))

pub returns-clause-honest : goal.returns-clause-honest
returns-clause-honest g c =
    honest_of_ended (rules_of g.O.Served.gives g.O.Served.fronts) c.args.object c.args.limits (g.W.Outside.seen c.conclude.new.outside) c.conclude.new.keep.object
    (c.in_ok-conclude.ensures.ok c.args.object c.args.limits (c.in_ok-serve.ensures.ok c.args.object c.args.limits
    (good_first (rules_of g.O.Served.gives g.O.Served.fronts) c.args.object c.args.limits (g.W.Outside.seen c.args.outside.now) c.in_ok-keep.keep c.requires c.in_ok-keep.ensures.stands)))

pub returns-clause-ended : goal.returns-clause-ended
returns-clause-ended g c =
    ended_of (rules_of g.O.Served.gives g.O.Served.fronts) c.args.object c.args.limits (g.W.Outside.seen c.conclude.new.outside) c.conclude.new.keep.object c.into_object.result c.into_object.ensures
    (c.in_ok-conclude.ensures.ok c.args.object c.args.limits (c.in_ok-serve.ensures.ok c.args.object c.args.limits
    (good_first (rules_of g.O.Served.gives g.O.Served.fronts) c.args.object c.args.limits (g.W.Outside.seen c.args.outside.now) c.in_ok-keep.keep c.requires c.in_ok-keep.ensures.stands)))
