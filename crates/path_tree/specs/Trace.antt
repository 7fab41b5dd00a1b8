-- What happened to the calls of an object, the newest event first.
use Rattle.std.specs.Prelude.{◌≡◌, ◌≢◌, ℕ, ◌+◌, ◌==◌, ◌&&◌, ◌⊎◌, if◌then◌else◌, List, [], ◌∷◌}

-- a call has a number and an operation
pub record Call : Type 0 where
  pub number : ℕ
  pub operation : ℕ

pub data Event : Type 0 where
  Start : Call → Event
  End : Call → Event

-- how many calls of an operation have started
abbrev pub starts : ℕ → List Event → ℕ
starts op [] = 0
starts op (Start call ∷ past) = (if call.operation == op then 1 else 0) + starts op past
starts op (End call ∷ past) = starts op past

-- how many calls of an operation have ended
abbrev pub ends : ℕ → List Event → ℕ
ends op [] = 0
ends op (Start call ∷ past) = ends op past
ends op (End call ∷ past) = (if call.operation == op then 1 else 0) + ends op past

-- the calls without one of them
abbrev pub without : Call → List Call → List Call
without call [] = []
without call (c ∷ calls) =
    if (c.number == call.number) && (c.operation == call.operation) then calls else c ∷ without call calls

-- the calls that have started and not ended
abbrev pub running_calls : List Event → List Call
running_calls [] = []
running_calls (Start call ∷ past) = call ∷ running_calls past
running_calls (End call ∷ past) = without call (running_calls past)

-- a call is among these
abbrev pub IsAmong : Call → List Call → Type 0
IsAmong call [] = ⊥
IsAmong call (c ∷ calls) = ((c.number ≡ call.number) × (c.operation ≡ call.operation)) ⊎ IsAmong call calls

-- no call of this number has started
abbrev pub IsFresh : ℕ → List Event → Type 0
IsFresh number [] = Unit {0}
IsFresh number (Start call ∷ past) = (call.number ≢ number) × IsFresh number past
IsFresh number (End call ∷ past) = IsFresh number past

-- each call starts at most once, and ends at most once, after its start
abbrev pub IsTrace : List Event → Type 0
IsTrace [] = Unit {0}
IsTrace (Start call ∷ past) = IsFresh call.number past × IsTrace past
IsTrace (End call ∷ past) = IsAmong call (running_calls past) × IsTrace past
