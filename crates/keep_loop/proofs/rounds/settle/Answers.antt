use Rattle.keep_loop.specs.Epochs.{rules_of}
use Rattle.std.proofs.Common.{arith}
use Rattle.keep_loop.proofs.Kept.{settles_all}
use Rattle.keep_loop.proofs.rounds.settle.Goals as goal

pub returns-clause-ok : goal.returns-clause-ok
returns-clause-ok g c =
    let now = c.loop-journal.invariant in
    settles_all (rules_of g.O.Served.gives g.O.Served.fronts) (g.W.Outside.seen c.args.outside.now) (g.W.Outside.seen c.loop-journal.outside) c.args.keep.now c.loop-journal.keep now.goes
    (λ j is. now.none j (let e = now.count in let t = c.loop-journal-test.false in omega (arith, is, e, t)))
