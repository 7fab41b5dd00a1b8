use Rattle.std.proofs.Common.{◌+◌, ◌≤◌, length}
use Rattle.value_core.specs.Runs.{NoLineFeed}
use Rattle.value_core.proofs.Reading.{Reading}
use Rattle.value_core.proofs.engine.Pending.feed.Given as goal

abbrev pub invariant-loop-front : goal.invariant-loop-front
invariant-loop-front g l = record {
  clear : NoLineFeed l.self.held.items;
  room : l.self.number + length l.rest ≤ l.fn.self.number + length l.piece;
  reading : Reading g.M.Machine.gives l.fn.machine l.fn.self.number l.fn.self.held.items l.fn.self.out.items l.piece l.rest l.machine l.self.number l.self.held.items l.self.out.items;
}

abbrev pub decreases-loop-front : goal.decreases-loop-front
decreases-loop-front g l = length l.rest
