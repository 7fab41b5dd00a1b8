use Rattle.keep_loop.specs.Epochs.{rules_of}
use Rattle.std.proofs.Common.{refl, arith}
use Rattle.keep_loop.proofs.Ended.{ends_waiting, stores_one, ends_stored}
use Rattle.keep_loop.proofs.rounds.store_last.Goals as goal

pub returns-then-keep-clause-ok : goal.returns-then-keep-clause-ok
returns-then-keep-clause-ok g c =
    ends_waiting (rules_of g.O.Served.gives g.O.Served.fronts) (g.W.Outside.seen c.args.outside.now) (g.W.Outside.seen c.args.outside.now) c.args.keep.now c.if-keep.true refl

pub loop-journal-preserved : goal.loop-journal-preserved
loop-journal-preserved g c = record {
  goes = stores_one (rules_of g.O.Served.gives g.O.Served.fronts) c.loop-journal.journal (g.W.Outside.seen c.args.outside.now) (g.W.Outside.seen c.loop-journal.outside) (g.W.Outside.seen c.store_one.new.outside) c.args.keep.now
      c.if-keep.false c.in_ok-store_one.ensures.stored c.loop-journal.invariant.goes;
}

pub returns-clause-ok : goal.returns-clause-ok
returns-clause-ok g c =
    ends_stored (rules_of g.O.Served.gives g.O.Served.fronts) c.loop-journal.journal (g.W.Outside.seen c.args.outside.now) (g.W.Outside.seen c.loop-journal.outside) c.args.keep.now
    (let e = c.journals-journal-end.ensures in let t = c.loop-journal-test.false in omega (arith, e, t)) c.loop-journal.invariant.goes
