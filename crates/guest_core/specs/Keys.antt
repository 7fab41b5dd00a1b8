-- What is known of the calls of a name.
use Rattle.std.specs.Prelude.{◌≡◌, ◌≢◌, ◌⊎◌, ℕ, ◌+◌, ◌<◌, ◌≤◌, List, [], ◌∷◌, length, take, slice_get}
use Rattle.std.specs.Prelude.{Bool, true, false, Option, Some, None, Result, Ok, Err}
use Rattle.value_core.specs.declared.datum.Datum.{Datum}
use Rattle.apply_core.specs.declared.reply.Reply.{Reply}
use Rattle.guest_core.specs.declared.kept.Asked.{Asked}
use Rattle.guest_core.specs.declared.kept.RememberedCall.{RememberedCall}
use Rattle.guest_core.specs.declared.keys.Judged.{Judged}
use Rattle.guest_core.specs.declared.keys.Judged.TheVariants.{New, Waits, Repeat, KeyReused, BadKey}
use Rattle.guest_core.specs.declared.keys.AskFault.{AskFault}
use Rattle.guest_core.specs.declared.keys.AskFault.TheVariants.{SessionBusy, KeysSpent, Memory}

-- The key of a name's next call, its last calls with the newest first, and the call that has not ended. The newest of
-- the last calls has the key below the next one, and each other one the key below that of the call before it.
pub record Keys : Type 0 where
  pub next : ℕ
  pub kept : List RememberedCall
  pub asked : Option Asked

-- what a call asks for
abbrev pub asks : ℕ → List Datum → Asked
asks operation arguments = record { operation = operation; arguments = arguments }

-- the call at this place among those that are kept, and it has this key
pub record HasKey (w : Keys) (key k : ℕ) (c : RememberedCall) : Type 0 where
  pub there : slice_get w.kept k ≡ Some c
  pub key_is : key + k + 1 ≡ w.next

-- a call that is kept has this key, and asked for something else
pub record IsReused (w : Keys) (key : ℕ) (a : Asked) : Type 0 where
  pub place : ℕ
  pub call : RememberedCall
  pub has : HasKey w key place call
  pub other : call.asked ≢ a

-- it is the key of the call that has not ended, which asked for something else
pub record IsHeldBack (w : Keys) (key : ℕ) (a : Asked) : Type 0 where
  pub call : Asked
  pub waits : w.asked ≡ Some call
  pub key_is : key ≡ w.next
  pub other : call ≢ a

-- what the key of the next call says of a call, by the one that has not ended
abbrev pub JudgesNext : Option Asked → Asked → Judged → Type 0
JudgesNext waits a New = waits ≡ None
JudgesNext waits a Waits = waits ≡ Some a
JudgesNext waits a (Repeat k) = ⊥
JudgesNext waits a KeyReused = (b : Asked) × (waits ≡ Some b) × (b ≢ a)
JudgesNext waits a BadKey = ⊥

-- what the key that this place has says of a call, by those that are kept
abbrev pub JudgesKept : List RememberedCall → ℕ → Asked → Judged → Type 0
JudgesKept kept place a New = ⊥
JudgesKept kept place a Waits = ⊥
JudgesKept kept place a (Repeat k) = (c : RememberedCall) × (k ≡ place) × (slice_get kept place ≡ Some c) × (c.asked ≡ a)
JudgesKept kept place a KeyReused = (c : RememberedCall) × (slice_get kept place ≡ Some c) × (c.asked ≢ a)
JudgesKept kept place a BadKey = length kept ≤ place

-- What a key says of a call. A key is bad where it is past the next one, or older than those that are kept; 0 is older.
abbrev pub Judges : Keys → ℕ → Asked → Judged → Type 0
Judges w key a New = (key ≡ w.next) × (w.asked ≡ None)
Judges w key a Waits = (key ≡ w.next) × (w.asked ≡ Some a)
Judges w key a (Repeat k) = (c : RememberedCall) × HasKey w key k c × (c.asked ≡ a)
Judges w key a KeyReused = IsReused w key a ⊎ IsHeldBack w key a
Judges w key a BadKey = (w.next < key) ⊎ (key + length w.kept < w.next)

-- nothing is known but the key of the next call
abbrev pub fresh_keys : ℕ → Keys
fresh_keys first = record { next = first; kept = []; asked = None }

-- What it answers to ask a call, and what that makes of the keys; a fault, the first that applies, changes nothing.
abbrev pub Asks : Keys → Asked → Result (Unit {0}) AskFault → Keys → Type 0
Asks old a (Ok done) new = (old.asked ≡ None) × (new ≡ record old { asked = Some a })
Asks old a (Err SessionBusy) new = (old.asked ≢ None) × (new ≡ old)
Asks old a (Err KeysSpent) new = (old.asked ≡ None) × (old.next ≡ 18446744073709551615) × (new ≡ old)
Asks old a (Err Memory) new = (old.asked ≡ None) × (old.next < 18446744073709551615) × (new ≡ old)

-- no call waits
abbrev pub withdrawn : Keys → Keys
withdrawn w = record w { asked = None }

-- a call has ended: it stands in front of those that are kept, at most 16 with it, and its key is counted
abbrev pub remembered : Keys → RememberedCall → Keys
remembered w c = record { next = w.next + 1; kept = c ∷ take 15 w.kept; asked = None }

-- the call that was asked ended so; none was asked, and nothing changes
abbrev pub Ends : Keys → ℕ → Option Reply → Bool → Keys → Type 0
Ends old told reply true new =
    (a : Asked) × (old.asked ≡ Some a)
    × (new ≡ remembered old (record { asked = a; told = told; reply = reply }))
Ends old told reply false new = (old.asked ≡ None) × (new ≡ old)
