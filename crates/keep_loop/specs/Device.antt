-- What the calls of a device do to its file, and what a crash may do between two syncs.
use Rattle.std.specs.Prelude.{◌<◌, ◌≡◌, ◌⊎◌, ℕ, ◌+◌, ◌^◌, ◌≤◌, List, [], ◌∷◌, ◌++◌, length, take, drop, Result, IsErrOf}
use Rattle.std.specs.Prelude.{Option, Some, None}
use Rattle.keep_loop.specs.declared.device.DeviceError.{DeviceError}
use Rattle.keep_loop.specs.declared.device.DeviceError.TheVariants.{Failed, Full}

-- the file with these bytes at this offset, in place of those that stood there
abbrev pub with_bytes : ℕ → List ℕ → List ℕ → List ℕ
with_bytes at bytes file = take at file ++ bytes ++ drop (at + length bytes) file

-- what is known of a file after a change of it: nothing where nothing was known
abbrev pub IsChanged : (List ℕ → List ℕ) → Option (List ℕ) → Option (List ℕ) → Type 0
IsChanged change None new = new ≡ None
IsChanged change (Some file) new = new ≡ Some (change file)

-- it is known to be this, or nothing is known
abbrev pub IsAtMost : List ℕ → Option (List ℕ) → Type 0
IsAtMost file None = Unit {0}
IsAtMost file (Some known) = known ≡ file

-- The premise on a write that a crash cuts short: each byte is as it was, or as it was to be.
abbrev pub IsTorn : List ℕ → List ℕ → List ℕ → Type 0
IsTorn [] [] [] = Unit {0}
IsTorn (was ∷ old) (willbe ∷ new) (is ∷ file) = ((is ≡ was) ⊎ (is ≡ willbe)) × IsTorn old new file
IsTorn old new file = ⊥

-- what a crash may leave after a write has come of what it might have left before
abbrev pub Writes : ℕ → List ℕ → (List ℕ → Type 0) → (List ℕ → Type 0) → Type 0
Writes at bytes old new = (c : List ℕ) → new c → (d : List ℕ) × old d × IsTorn d (with_bytes at bytes d) c

-- after a replacement: what it might have left before, or the other bytes
abbrev pub Replaces : List ℕ → (List ℕ → Type 0) → (List ℕ → Type 0) → Type 0
Replaces bytes old new = (c : List ℕ) → new c → old c ⊎ (c ≡ bytes)

-- a crash leaves this and nothing else
abbrev pub Only : List ℕ → (List ℕ → Type 0) → Type 0
Only file outcomes = (c : List ℕ) → outcomes c → c ≡ file

-- where the file is known, a crash leaves it and nothing else
abbrev pub IsOnDisk : Option (List ℕ) → (List ℕ → Type 0) → Type 0
IsOnDisk seen outcomes = (file : List ℕ) → seen ≡ Some file → Only file outcomes

-- Time goes on: a crash since t might have left what it might have left before, or what it may leave now.
pub record Elapses (before now : ℕ) (past since : ℕ → List ℕ → Type 0) (may_leave : List ℕ → Type 0) : Type 0 where
  pub later : before ≤ now
  pub nothing_else : (t : ℕ) (c : List ℕ) → t ≤ before → since t c → past t c ⊎ may_leave c
  pub keeps : (t : ℕ) (c : List ℕ) → t ≤ before → past t c → since t c

-- A crash at any moment from old on leaves a file that has P; new is how the device is at the last of them.
pub record LeavesOnly {D : Type 0} (moment : D → ℕ) (left_since : D → ℕ → List ℕ → Type 0) (old new : D)
    (P : List ℕ → Type 0) : Type 0 where
  pub later : moment old ≤ moment new
  pub each : (c : List ℕ) → left_since new (moment old) c → P c
  -- a crash since an earlier moment might have left it before old, or it has P
  pub before : (t : ℕ) (c : List ℕ) → t ≤ moment old → left_since new t c → left_since old t c ⊎ P c

-- a count of 64 bits has risen, or it stands at its end
abbrev pub Rises : ℕ → ℕ → Type 0
Rises before now = (before < now) ⊎ (2 ^ 64 ≤ now + 1)

-- `Failed` is told only where the disk has failed since, and `Full` isn't told
pub record HasCause {T : Type 0} (before now : ℕ) (result : Result T DeviceError) : Type 0 where
  pub later : before ≤ now
  pub failed : IsErrOf result Failed → Rises before now
  pub not_full : IsErrOf result Full → ⊥
