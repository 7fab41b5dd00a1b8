use Rattle.std.proofs.Common.{◌≡◌, ◌<◌, ◌≤◌, ℕ, Some, length}
use Rattle.std.specs.Prelude.{slice_get, slice_index}
use Rattle.word_core.specs.Events.{Called}
use Rattle.live_core.proofs.waiters.note_all.Given as goal

abbrev pub invariant-loop-place : goal.invariant-loop-place
invariant-loop-place l =
    ((j : ℕ) (c : Called) → j < l.place → slice_get l.rows j ≡ Some c → slice_index l.firsts c.operation ≤ c.number)
    × ((j : ℕ) (c : Called) → j < l.place → slice_get l.rows j ≡ Some c → (n : ℕ) → slice_get l.numbers c.session ≡ Some n → n ≡ c.number)
    × (length l.numbers ≡ length l.fn.numbers)
