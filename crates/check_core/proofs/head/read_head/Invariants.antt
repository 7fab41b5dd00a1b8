use Rattle.std.proofs.Common.{◌≡◌, ◌≤◌, length, vec_len}
use Rattle.std.specs.Io.KnownBytes.{Consumes}
use Rattle.value_core.specs.Runs.{NoLineFeed}
use Rattle.check_core.proofs.head.read_head.Given as goal

abbrev pub invariant-loop-turn : goal.invariant-loop-turn
invariant-loop-turn g l = record {
  size : vec_len l.piece ≡ 65536;
  taken : Consumes (g.R.Read.remaining l.fn.reader) (g.R.Read.remaining l.reader) l.head.items;
  clear : NoLineFeed l.head.items;
  short : length l.head.items ≤ 65536;
}
