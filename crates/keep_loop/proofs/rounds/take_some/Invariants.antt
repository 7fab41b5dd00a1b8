use Rattle.keep_loop.specs.Epochs.{rules_of}
use Rattle.keep_loop.specs.Stands.{Keeps}
use Rattle.keep_loop.proofs.rounds.take_some.Given as goal

abbrev pub invariant-loop-taken : goal.invariant-loop-taken
invariant-loop-taken g l = record {
  goes : Keeps (rules_of g.O.Served.gives g.O.Served.fronts) (g.W.Outside.seen l.fn.outside) l.fn.keep (g.W.Outside.seen l.outside) l.keep;
}
