-- What a past leaves.
use Rattle.std.proofs.Common.{◌≡◌, ℕ, ◌+◌, ◌*◌, ◌<◌, inl, inr, Bool, true, false, List, [], ◌∷◌, ◌++◌, refl, sym, arith, length, subst}
use Rattle.std.specs.Prelude.{◌==◌, ◌&&◌, if◌then◌else◌}
use Rattle.std.specs.List.{fold}
use Rattle.std.proofs.lemmas.List.Sums.{fold-append}
use Rattle.std.proofs.lemmas.Bool.Decides.{eqb_tells, nat_tests}
use Rattle.path_tree.specs.Trace.{Call, Event, Start, End, IsTrace, IsAmong, running_calls, without, starts, ends}
use Rattle.path_tree.proofs.CountLaws.{of_operation, started_or}
use Rattle.path_count.specs.Stands.{started_calls}
use Rattle.path_count.proofs.Running.{none_of}
use Rattle.path_count.specs.declared.past.PastEvent.{PastEvent}
use Rattle.path_count.specs.declared.past.PastEvent.TheVariants as past
use Rattle.path_count.specs.Past.{call_of, with_event, events_of, AreBefore}
use Rattle.path_count.specs.Numbers.{IsNumbered}

-- the call that ends is one that runs, of its operation
pub ends_one : (op : ℕ) (calls : List Call) → 0 < of_operation op calls → ((call_of op calls).operation ≡ op) × IsAmong (call_of op calls) calls
ends_one op [] up = absurd (omega (arith, up))
ends_one op (c ∷ calls) up = elim (eqb_tells c.operation op) [
  | inl same ↦ subst (λ b. ((if b then c else call_of op calls).operation ≡ op) × IsAmong (if b then c else call_of op calls) (c ∷ calls)) (sym same.0) (same.1, inl (refl, refl))
  | inr other ↦ let later = ends_one op calls (omega (arith, up, none_of (c.operation == op) other.0)) in
      subst (λ b. ((if b then c else call_of op calls).operation ≡ op) × IsAmong (if b then c else call_of op calls) (c ∷ calls)) (sym other.0) (later.0, inr later.1)
]

pub some_runs : (op : ℕ) (t : List Event) → IsTrace t → ends op t < starts op t → 0 < of_operation op (running_calls t)
some_runs op t trace runs = omega (arith, runs, started_or op t trace)

pub numbered_none : IsNumbered []
numbered_none number lo = tt

pub numbered_with : (t : List Event) (event : PastEvent) → IsNumbered t → IsNumbered (with_event t event)
numbered_with t (past.Start op) h number lo = ((λ e. absurd (omega (arith, lo, e))), h number (omega (arith, lo)))
numbered_with t (past.End op) h number lo = h number lo

pub events_with : (all : List PastEvent) (event : PastEvent) → events_of (all ++ event ∷ []) ≡ with_event (events_of all) event
events_with all event = fold-append with_event [] all (event ∷ [])

before_with : (t : List Event) (event : PastEvent) → AreBefore t → AreBefore (with_event t event)
before_with t (past.Start op) h = (omega arith, h)
before_with t (past.End op) h = h

before_from : (t : List Event) (all : List PastEvent) → AreBefore t → AreBefore (fold with_event t all)
before_from t [] h = h
before_from t (event ∷ all) h = before_from (with_event t event) all (before_with t event h)

pub before_of : (all : List PastEvent) → AreBefore (events_of all)
before_of all = before_from [] all tt

long_from : (t : List Event) (all : List PastEvent) → length (fold with_event t all) ≡ length t + length all
long_from t [] = omega arith
long_from t (past.Start op ∷ all) = omega (arith, long_from (with_event t (past.Start op)) all)
long_from t (past.End op ∷ all) = omega (arith, long_from (with_event t (past.End op)) all)

pub long_of : (all : List PastEvent) → length (events_of all) ≡ length all
long_of all = omega (arith, long_from [] all)

one_less : (b : Bool) (c : Call) (calls rest : List Call) → (b ≡ false → length calls ≡ length rest + 1) → length (c ∷ calls) ≡ length (if b then calls else c ∷ rest) + 1
one_less true c calls rest later = omega arith
one_less false c calls rest later = omega (arith, later refl)

both_differ : (a b c d : ℕ) → (a == b) && (c == d) ≡ false → (a ≡ b) × (c ≡ d) → ⊥
both_differ a b c d h = grind (arith, nat_tests)

length_without : (call : Call) (calls : List Call) → IsAmong call calls → length calls ≡ length (without call calls) + 1
length_without call [] h = absurd h
length_without call (c ∷ calls) h =
    one_less ((c.number == call.number) && (c.operation == call.operation)) c calls (without call calls)
    (λ no. elim h [ inl here ↦ absurd (both_differ c.number call.number c.operation call.operation no here) | inr later ↦ length_without call calls later ])

events_and_running : (t : List Event) → IsTrace t → length t + length (running_calls t) ≡ 2 * started_calls t
events_and_running [] trace = refl
events_and_running (Start call ∷ past) trace = omega (arith, events_and_running past trace.1)
events_and_running (End call ∷ past) trace = omega (arith, events_and_running past trace.1, length_without call (running_calls past) trace.0)

no_item : (calls : List Call) → length calls ≡ 0 → calls ≡ []
no_item [] h = refl
no_item (c ∷ calls) h = absurd (omega (arith, h))

-- where each call that started has ended, none runs
pub quiet_of : (t : List Event) → IsTrace t → length t ≡ 2 * started_calls t → running_calls t ≡ []
quiet_of t trace long = no_item (running_calls t) (omega (arith, events_and_running t trace, long))
