use Rattle.std.proofs.Common.{◌≡◌, ◌-◌, ◌++◌, [], length, replicate}
use Rattle.run_core.proofs.seen.put.Given as goal

-- what is padded so far and what is left to pad
abbrev pub invariant-loop-alloc : goal.invariant-loop-alloc
invariant-loop-alloc l = record {
  padded : l.read.items ++ replicate (l.place - length l.read.items) [] ≡ l.fn.read.items ++ replicate (l.place - length l.fn.read.items) [];
  place : l.place ≡ l.fn.place;
  bytes : l.bytes.items ≡ l.fn.bytes.items;
}

abbrev pub decreases-loop-alloc : goal.decreases-loop-alloc
decreases-loop-alloc l = l.place - length l.read.items
