use Rattle.keep_loop.specs.Epochs.{rules_of}
use Rattle.keep_loop.specs.Stands.{Keeps}
use Rattle.keep_loop.proofs.rounds.finish.Given as goal

abbrev pub invariant-loop-round : goal.invariant-loop-round
invariant-loop-round g l = record {
  goes : Keeps (rules_of g.O.Served.gives g.O.Served.fronts) (g.W.Outside.seen l.fn.outside) l.fn.keep (g.W.Outside.seen l.outside) l.keep;
}
