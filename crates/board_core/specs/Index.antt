-- The numbers of the calls of each session, as they are kept.
use Rattle.std.specs.Prelude.{◌≡◌, ℕ, zero, suc, List, length, slice_get, Option, Some, None}
use Rattle.page_core.specs.ObjectCalls.{AcceptedCall}
use Rattle.board_core.specs.Keys.{count_by, HasKey}

-- the number at this place, from 1
abbrev pub number_in : List ℕ → ℕ → Option ℕ
number_in row zero = None
number_in row (suc k) = slice_get row k

-- these are the numbers of the session's calls, in the order of their keys
pub record AreNumbers (calls : List AcceptedCall) (session : ℕ) (row : List ℕ) : Type 0 where
  pub all : length row ≡ count_by session calls
  pub at : (k n : ℕ) → slice_get row k ≡ Some n → HasKey calls session (suc k) n

-- each session has its row
pub record AreIndexed (calls : List AcceptedCall) (rows : List (List ℕ)) : Type 0 where
  pub each : length rows ≡ 1024
  pub at : (k : ℕ) (row : List ℕ) → slice_get rows k ≡ Some row → AreNumbers calls (suc k) row
