use Rattle.std.proofs.Common.{◌≡◌, ◌+◌, ◌*◌, ◌≤◌, [], vec_len}
use Rattle.value_core.specs.Runs.{NoLineFeed}
use Rattle.value_core.proofs.Whole.{Sofar}
use Rattle.value_core.proofs.engine.run_lines.Given as goal

abbrev pub invariant-loop-turn : goal.invariant-loop-turn
invariant-loop-turn g l = record {
  size : vec_len l.piece ≡ 65536;
  clear : NoLineFeed l.pending.held.items;
  empty : l.pending.out.items ≡ [];
  room : l.pending.number ≤ l._turn * 65536 + 1;
  sofar : Sofar g.M.Machine.gives l.fn.machine (g.R.Read.remaining l.fn.reader) (g.W.Write.contents l.fn.writer) l.machine (g.R.Read.remaining l.reader) (g.W.Write.contents l.writer) l.pending.number l.pending.held.items;
}
