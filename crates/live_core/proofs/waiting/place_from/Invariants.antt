use Rattle.std.proofs.Common.{◌≡◌, ◌-◌, ◌<◌, ◌≤◌, ℕ, Some, length}
use Rattle.std.specs.Prelude.{slice_get}
use Rattle.word_core.specs.Events.{Called}
use Rattle.live_core.proofs.waiting.place_from.Given as goal

abbrev pub decreases-loop-low : goal.decreases-loop-low
decreases-loop-low l = l.high - l.low

abbrev pub invariant-loop-low : goal.invariant-loop-low
invariant-loop-low l =
    (l.low ≤ l.high) × (l.high ≤ length l.waiting)
    × ((j : ℕ) (c : Called) → j < l.low → slice_get l.waiting j ≡ Some c → c.number < l.number)
    × ((j : ℕ) (c : Called) → l.high ≤ j → slice_get l.waiting j ≡ Some c → l.number ≤ c.number)
