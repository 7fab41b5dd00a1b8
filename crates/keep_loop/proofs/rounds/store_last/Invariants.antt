use Rattle.keep_loop.specs.Epochs.{rules_of}
use Rattle.keep_loop.proofs.Ended.{StoresFirst}
use Rattle.keep_loop.proofs.rounds.store_last.Given as goal

abbrev pub invariant-loop-journal : goal.invariant-loop-journal
invariant-loop-journal g l = record {
  goes : StoresFirst (rules_of g.O.Served.gives g.O.Served.fronts) l.journal (g.W.Outside.seen l.fn.outside) (g.W.Outside.seen l.outside) l.fn.keep;
}
