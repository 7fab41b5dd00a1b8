-- Sessions that are there.
use Rattle.std.proofs.Common.{ℕ, ◌<◌, ◌≤◌, inl, inr, arith}
use Rattle.std.proofs.lemmas.Bool.{cases_lt}
use Rattle.board_core.specs.Board.{Board}
use Rattle.board_core.specs.Answers.{IsGone}

-- a session that is there has a number from 1 to 1,024
pub session_there : (b : Board) (session : ℕ) → (IsGone b session → ⊥) → (0 < session) × (session ≤ 1024)
session_there b session here = (
  elim (cases_lt 0 session) [ inl x ↦ x | inr x ↦ absurd (here (inl (omega (arith, x)))) ],
  elim (cases_lt 1024 session) [ inl x ↦ absurd (here (inr (inl x))) | inr x ↦ x ],
)
