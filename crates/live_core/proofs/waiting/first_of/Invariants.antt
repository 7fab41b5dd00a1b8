use Rattle.std.proofs.Common.{◌≡◌, ◌≢◌, ◌<◌, ◌≤◌, ℕ, Some, length}
use Rattle.std.specs.Prelude.{slice_get}
use Rattle.word_core.specs.Events.{Called}
use Rattle.live_core.proofs.waiting.first_of.Given as goal

abbrev pub invariant-loop-place : goal.invariant-loop-place
invariant-loop-place l =
    (l.place ≤ length l.waiting) × ((j : ℕ) (c : Called) → j < l.place → slice_get l.waiting j ≡ Some c → c.operation ≢ l.operation)
