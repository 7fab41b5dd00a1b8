-- What runs, and how long a trace is.
use Rattle.std.proofs.Common.{◌≡◌, ℕ, ◌+◌, ◌*◌, ◌<◌, ◌≤◌, inl, inr, Bool, true, false, List, [], ◌∷◌, refl, arith, length}
use Rattle.std.specs.Prelude.{◌==◌, ◌&&◌, if◌then◌else◌}
use Rattle.std.proofs.lemmas.Bool.Decides.{nat_tests, eqb_tells}
use Rattle.path_tree.specs.Trace.{Call, Event, Start, End, starts, ends, IsTrace, IsFresh, IsAmong, running_calls, without}
use Rattle.path_tree.proofs.CountLaws.{of_operation, started_or, without_one}
use Rattle.path_count.specs.Stands.{started_calls}

-- what a test adds to a count
abbrev pub bit : Bool → ℕ
bit b = if b then 1 else 0

pub none_of : (b : Bool) → b ≡ false → bit b ≡ 0
none_of true h = absurd (cc)
none_of false h = refl

pub one_of : (b : Bool) → b ≡ true → bit b ≡ 1
one_of true h = refl
one_of false h = absurd (cc)

at_most_one : (b : Bool) → (if b then 1 else 0) ≤ 1
at_most_one true = omega arith
at_most_one false = omega arith

-- a call of the operation runs where some are left
some_call : (op : ℕ) (calls : List Call) → 0 < of_operation op calls → (call : Call) × (call.operation ≡ op) × IsAmong call calls
some_call op [] up = absurd (omega (arith, up))
some_call op (c ∷ calls) up = elim (eqb_tells c.operation op) [
  | inl same ↦ (c, same.1, inl (refl, refl))
  | inr other ↦ let later = some_call op calls (omega (arith, up, none_of (c.operation == op) other.0)) in (later.0, later.1, inr later.2)
]

pub a_call_runs : (op : ℕ) (t : List Event) → IsTrace t → ends op t < starts op t → (call : Call) × (call.operation ≡ op) × IsAmong call (running_calls t)
a_call_runs op t trace runs = some_call op (running_calls t) (omega (arith, runs, started_or op t trace))

pub same_test : (k : ℕ) → (k == k) ≡ true
same_test k = grind (arith, nat_tests)

-- the operation of a running call has started more often than ended
pub call_counts : (call : Call) (t : List Event) → IsTrace t → IsAmong call (running_calls t) → ends call.operation t < starts call.operation t
call_counts call t trace among =
    omega (
      arith,
      started_or call.operation t trace,
      without_one call.operation call (running_calls t) among,
      one_of (call.operation == call.operation) (same_test call.operation),
    )

pub ends_le : (op : ℕ) (t : List Event) → IsTrace t → ends op t ≤ starts op t
ends_le op t trace = omega (arith, started_or op t trace)

one_less : (b : Bool) (c call : Call) (calls rest : List Call) → (b ≡ false → length calls ≡ length rest + 1) →
    length (c ∷ calls) ≡ length (if b then calls else c ∷ rest) + 1
one_less true c call calls rest later = omega arith
one_less false c call calls rest later = omega (arith, later refl)

both_differ : (a b c d : ℕ) → (a == b) && (c == d) ≡ false → (a ≡ b) × (c ≡ d) → ⊥
both_differ a b c d h = grind (arith, nat_tests)

length_without : (call : Call) (calls : List Call) → IsAmong call calls → length calls ≡ length (without call calls) + 1
length_without call [] h = absurd h
length_without call (c ∷ calls) h =
    one_less ((c.number == call.number) && (c.operation == call.operation)) c call calls (without call calls)
    (λ no. elim h [ inl here ↦ absurd (both_differ c.number call.number c.operation call.operation no here) | inr later ↦ length_without call calls later ])

-- each event is a start, or the end of a call that started
events_and_running : (t : List Event) → IsTrace t → length t + length (running_calls t) ≡ 2 * started_calls t
events_and_running [] trace = refl
events_and_running (Start call ∷ past) trace = omega (arith, events_and_running past trace.1)
events_and_running (End call ∷ past) trace = omega (arith, events_and_running past trace.1, length_without call (running_calls past) trace.0)

pub few_events : (t : List Event) → IsTrace t → length t ≤ 2 * started_calls t
few_events t trace = omega (arith, events_and_running t trace)

-- no operation has started more often than all
pub starts_le : (op : ℕ) (t : List Event) → starts op t ≤ started_calls t
starts_le op [] = omega arith
starts_le op (Start call ∷ past) = omega (arith, starts_le op past, at_most_one (call.operation == op))
starts_le op (End call ∷ past) = starts_le op past

-- some number is fresh
abbrev top : List Event → ℕ
top [] = 0
top (Start call ∷ past) = (call.number + 1) + top past
top (End call ∷ past) = top past

fresh_above : (n : ℕ) (t : List Event) → top t ≤ n → IsFresh n t
fresh_above n [] h = tt
fresh_above n (Start call ∷ past) h = ((λ e. absurd (omega (arith, h, e))), fresh_above n past (omega arith))
fresh_above n (End call ∷ past) h = fresh_above n past h

pub a_number_is_fresh : (t : List Event) → (number : ℕ) × IsFresh number t
a_number_is_fresh t = (top t, fresh_above (top t) t (omega arith))
