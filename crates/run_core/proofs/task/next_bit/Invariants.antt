use Rattle.std.proofs.Common.{◌-◌, ◌≡◌, ◌<◌, ◌≤◌, ℕ}
use Rattle.std.specs.Int.{bit_at}
use Rattle.run_core.proofs.task.next_bit.Given as goal

-- none of the bits before this part is set
abbrev pub invariant-loop-part : goal.invariant-loop-part
invariant-loop-part l = record {
  from : l.fn.from ≤ l.part;
  none : (q : ℕ) → l.fn.from ≤ q → q < l.part → bit_at l.fn.bits q ≡ 1 → ⊥;
  same : l.bits ≡ l.fn.bits;
}

abbrev pub decreases-loop-part : goal.decreases-loop-part
decreases-loop-part l = 16 - l.part
