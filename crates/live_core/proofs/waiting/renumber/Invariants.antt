use Rattle.std.proofs.Common.{◌≡◌, ◌++◌, take, drop}
use Rattle.live_core.specs.Epochs.{numbered_from}
use Rattle.live_core.proofs.waiting.renumber.Given as goal

-- those before the place have their numbers, the others are as they were
abbrev pub invariant-loop-place : goal.invariant-loop-place
invariant-loop-place l = l.waiting.items ≡ numbered_from 0 (take l.place l.fn.waiting.items) ++ drop l.place l.fn.waiting.items
