use Rattle.keep_loop.specs.Epochs.{rules_of}
use Rattle.keep_loop.specs.Stands.{Sends}
use Rattle.keep_loop.proofs.rounds.send.Given as goal

abbrev pub invariant-loop-sent : goal.invariant-loop-sent
invariant-loop-sent g l = record {
  goes : Sends (rules_of g.O.Served.gives g.O.Served.fronts) (g.W.Outside.seen l.fn.outside) l.fn.keep (g.W.Outside.seen l.outside) l.keep;
}
