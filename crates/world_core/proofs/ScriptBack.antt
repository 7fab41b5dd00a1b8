-- What a session that is back leaves as it was.
use Rattle.std.proofs.Common.{◌≡◌, ℕ, refl}
use Rattle.board_core.specs.Board.{Board}
use Rattle.board_core.specs.Keys.{resumed}

pub resumed_same : (b : Board) (n : ℕ) → ((resumed b n).history ≡ b.history) × ((resumed b n).calls ≡ b.calls) × ((resumed b n).object ≡ b.object)
unfolding resumed
resumed_same b n = (refl, refl, refl)
