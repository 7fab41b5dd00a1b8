-- Hands that fail chosen calls of the hand inside them.
use Rattle.std.specs.Prelude.{◌≡◌, ℕ, ◌+◌, ◌-◌, ◌^◌, ◌<◌, min}
use Rattle.device_core.specs.declared.failing.FailingHand.{FailingHand}
use Rattle.device_core.specs.Made.{Made, creates, appends, seals, discards, reads, retires, Fails}

-- one more, as far as can be counted
abbrev pub one_more : ℕ → ℕ
one_more n = min (n + 1) (2 ^ 64 - 1)

-- the hand inside
abbrev pub inner_of : {H C : Type 0} → FailingHand H C → H
inner_of h = h.inner

-- the number of the next call
abbrev pub left_of : {H C : Type 0} → FailingHand H C → ℕ
left_of h = h.left

-- how many calls it has failed by itself
abbrev pub blown_of : {H C : Type 0} → FailingHand H C → ℕ
blown_of h = h.blown

-- how often it has failed, as far as can be counted: the hand inside it and it itself
abbrev pub all_failed : {H C : Type 0} → (H → ℕ) → FailingHand H C → ℕ
all_failed failed h = min (failed (inner_of h) + blown_of h) (2 ^ 64 - 1)

-- the next call is failed
abbrev pub IsNextChosen : {H C : Type 0} → (C → ℕ → Type 0) → FailingHand H C → Type 0
IsNextChosen chosen h = chosen h.choice (left_of h)

-- of so many calls from this number on none is failed
pub record Spares {C : Type 0} (chosen : C → ℕ → Type 0) (choice : C) (number calls : ℕ) : Type 0 where
  pub each : (k : ℕ) → k < calls → chosen choice (number - k) → ⊥

-- the number falls by one, and the choice stays
pub record CountsDown {H C : Type 0} (old new : FailingHand H C) : Type 0 where
  pub left : left_of new ≡ left_of old - 1
  pub choice : new.choice ≡ old.choice

-- It failed a call: the hand inside is as it was, and the failure is counted.
pub record Blows {H C : Type 0} (old new : FailingHand H C) : Type 0 where
  pub inner : inner_of new ≡ inner_of old
  pub counted : blown_of new ≡ one_more (blown_of old)

-- It passed a call on: no failure of its own is counted.
pub record Passes {H C : Type 0} (old new : FailingHand H C) : Type 0 where
  pub counted : blown_of new ≡ blown_of old

-- a call that counts: it is failed where it is chosen, and else the hand inside makes it
pub record Counts {H C : Type 0} (chosen : C → ℕ → Type 0) (makes : H → Made → H → Type 0) (old : FailingHand H C)
    (call : Made) (new : FailingHand H C) : Type 0 where
  pub down : CountsDown old new
  pub failed : IsNextChosen chosen old → Fails call × Blows old new
  pub passed : (IsNextChosen chosen old → ⊥) → Passes old new × makes (inner_of old) call (inner_of new)

-- a call that does not count: the hand inside makes it
pub record PassesOn {H C : Type 0} (makes : H → Made → H → Type 0) (old : FailingHand H C) (call : Made)
    (new : FailingHand H C) : Type 0 where
  pub left : left_of new ≡ left_of old
  pub choice : new.choice ≡ old.choice
  pub counted : blown_of new ≡ blown_of old
  pub made : makes (inner_of old) call (inner_of new)

-- what it does: a discard does not count
abbrev pub FailingMakes : {H C : Type 0} → (C → ℕ → Type 0) → (H → Made → H → Type 0) → FailingHand H C → Made →
    FailingHand H C → Type 0
FailingMakes chosen makes old (creates answer) new = Counts chosen makes old (creates answer) new
FailingMakes chosen makes old (appends number bytes answer) new =
    Counts chosen makes old (appends number bytes answer) new
FailingMakes chosen makes old (seals pen answer) new = Counts chosen makes old (seals pen answer) new
FailingMakes chosen makes old (discards pen) new = PassesOn makes old (discards pen) new
FailingMakes chosen makes old (reads stamp at bytes answer) new =
    Counts chosen makes old (reads stamp at bytes answer) new
FailingMakes chosen makes old (retires stamp answer) new = Counts chosen makes old (retires stamp answer) new
