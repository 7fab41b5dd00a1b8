use Rattle.std.proofs.Common.{◌++◌, List, ℕ, drop}
use Rattle.keep_loop.specs.Order.{IsInOrder, Holds}
use Rattle.keep_loop.specs.Run.{AreSteps, added}
use Rattle.keep_loop.proofs.Runs.{SoFar}
use Rattle.keep_loop.proofs.journal.Journal.run.Given as goal

abbrev pub invariant-loop-step : goal.invariant-loop-step
invariant-loop-step g l = record {
  in_order : IsInOrder g.D.Device.seen g.D.Device.may_leave l.self;
  steps : AreSteps (drop l.step-index l.steps);
  so_far : (stored text : List ℕ) → Holds g.D.Device.seen l.fn.self stored text →
      SoFar g.D.Device.seen g.D.Device.moment g.D.Device.left_since l.fn.self l.self stored (text ++ added l.steps) (added (drop l.step-index l.steps));
}
