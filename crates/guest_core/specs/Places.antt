-- Places of what is held.
use Rattle.std.specs.Prelude.{◌≡◌, ◌≢◌, ℕ, ◌+◌, List, Some, All, slice_get, take, drop}
use Rattle.guest_core.specs.Held.{HeldCall, NoneOwn, NoneFits}

-- the newest that fits and is of this session
pub record IsNewestOwn (fits : HeldCall → Type 0) (session : ℕ) (held : List HeldCall) (k : ℕ) : Type 0 where
  pub hold : HeldCall
  pub there : slice_get held k ≡ Some hold
  pub fit : fits hold
  pub own : hold.session ≡ session
  pub newest : NoneOwn fits session (drop (k + 1) held)

-- the newest of a session
pub record IsNewest (session : ℕ) (held : List HeldCall) (k : ℕ) (hold : HeldCall) : Type 0 where
  pub there : slice_get held k ≡ Some hold
  pub own : hold.session ≡ session
  pub newest : All (λ (h : HeldCall). h.session ≢ session) (drop (k + 1) held)

-- the oldest that fits
pub record IsOldest (fits : HeldCall → Type 0) (held : List HeldCall) (k : ℕ) : Type 0 where
  pub hold : HeldCall
  pub there : slice_get held k ≡ Some hold
  pub fit : fits hold
  pub oldest : NoneFits fits (take k held)
