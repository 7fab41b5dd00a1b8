-- The laws of the counts.
use Rattle.std.proofs.Common.{◌≡◌, ℕ, ◌+◌, ◌-◌, ◌≤◌, inl, inr, Bool, true, false, List, [], ◌∷◌, refl, ap, arith}
use Rattle.std.specs.Prelude.{◌==◌, nat_lt, ◌&&◌, if◌then◌else◌}
use Rattle.std.proofs.lemmas.Bool.Decides.{nat_tests}
use Rattle.path_tree.specs.Path.{Path, Paths, name, list, sequence, bound, burst, two, more}
use Rattle.path_tree.specs.Trace.{Call, Event, Start, End, starts, ends, IsTrace, IsAmong, running_calls, without}
use Rattle.path_tree.specs.Counts.{started, ended, active, rises, falls, sum_started, sum_ended, first_started, last_ended}
use Rattle.path_tree.specs.Satisfies.{Holds, EachHolds, InTurn, Satisfies}
use Rattle.path_tree.specs.Laws.{Counted, EachCounted, sum_active}

-- one position more
rise_fall_step : (a b r f : ℕ) → r ≡ f + (if nat_lt 0 a then 1 else 0) →
    (if (a == 0) && nat_lt 0 b then 1 else 0) + r ≡ ((if nat_lt 0 a && (b == 0) then 1 else 0) + f) + (if nat_lt 0 b then 1 else 0)
rise_fall_step a b r f h = grind (arith, nat_tests)

-- what rises from 0 has fallen again, but for the last time
pub rises_falls : (f : List Event → ℕ) (t : List Event) → f [] ≡ 0 → rises f t ≡ falls f t + (if nat_lt 0 (f t) then 1 else 0)
rises_falls f [] at_start = rw at_start refl
rises_falls f (e ∷ past) at_start = rise_fall_step (f past) (f (e ∷ past)) (rises f past) (falls f past) (rises_falls f past at_start)

-- before any event nothing has begun
mutual
  pub none_begun : (e : Path) → started e [] ≡ 0
  none_begun (name op) = refl
  none_begun (list ms) = none_of ms
  none_begun (sequence ms) = none_first ms
  none_begun (bound n e) = none_begun e
  none_begun (burst e) = refl

  pub none_of : (ms : Paths) → sum_started ms [] ≡ 0
  none_of (two a b) = omega (arith, none_begun a, none_begun b)
  none_of (more a rest) = omega (arith, none_begun a, none_of rest)

  pub none_first : (ms : Paths) → first_started ms [] ≡ 0
  none_first (two a b) = none_begun a
  none_first (more a rest) = none_begun a

none_active : (e : Path) → active e [] ≡ 0
none_active e = omega (arith, none_begun e)

-- how often a burst has begun and finished
pub burst_counts : (e : Path) (t : List Event) →
    started (burst e) t ≡ ended (burst e) t + (if nat_lt 0 (active e t) then 1 else 0)
burst_counts e t = rises_falls (λ past. started e past - ended e past) t (none_active e)

-- how many of these calls are of an operation
abbrev pub of_operation : ℕ → List Call → ℕ
of_operation op [] = 0
of_operation op (c ∷ calls) = (if c.operation == op then 1 else 0) + of_operation op calls

both_same : (a b c d : ℕ) → (a == b) && (c == d) ≡ true → c ≡ d
both_same a b c d h = grind (arith, nat_tests)

both_differ : (a b c d : ℕ) → (a == b) && (c == d) ≡ false → (a ≡ b) × (c ≡ d) → ⊥
both_differ a b c d h = grind (arith, nat_tests)

without_step : (b : Bool) (op : ℕ) (c call : Call) (calls rest : List Call) →
    (b ≡ true → c.operation ≡ call.operation) →
    (b ≡ false → of_operation op calls ≡ (if call.operation == op then 1 else 0) + of_operation op rest) →
    (if c.operation == op then 1 else 0) + of_operation op calls ≡ (if call.operation == op then 1 else 0) + of_operation op (if b then calls else c ∷ rest)
without_step true op c call calls rest same later = ap (λ x. (if x == op then 1 else 0) + of_operation op calls) (same refl)
without_step false op c call calls rest same later = omega (arith, later refl)

pub without_one : (op : ℕ) (call : Call) (calls : List Call) → IsAmong call calls →
    of_operation op calls ≡ (if call.operation == op then 1 else 0) + of_operation op (without call calls)
without_one op call [] h = absurd h
without_one op call (c ∷ calls) h =
    without_step ((c.number == call.number) && (c.operation == call.operation)) op c call calls (without call calls)
    (both_same c.number call.number c.operation call.operation)
    (λ no. elim h [ inl here ↦ absurd (both_differ c.number call.number c.operation call.operation no here) | inr later ↦ without_one op call calls later ])

-- what started has ended or is running
pub started_or : (op : ℕ) (t : List Event) → IsTrace t → starts op t ≡ ends op t + of_operation op (running_calls t)
started_or op [] h = refl
started_or op (Start call ∷ past) h = omega (arith, started_or op past h.1)
started_or op (End call ∷ past) h = omega (arith, started_or op past h.1, without_one op call (running_calls past) h.0)

-- no count of ended falls
mutual
  pub more_finished : (e : Path) (event : Event) (t : List Event) → ended e t ≤ ended e (event ∷ t)
  more_finished (name op) (Start call) t = omega arith
  more_finished (name op) (End call) t = omega arith
  more_finished (list ms) event t = more_finished_of ms event t
  more_finished (sequence ms) event t = more_finished_last ms event t
  more_finished (bound n e) event t = more_finished e event t
  more_finished (burst e) event t = omega arith

  pub more_finished_of : (ms : Paths) (event : Event) (t : List Event) → sum_ended ms t ≤ sum_ended ms (event ∷ t)
  more_finished_of (two a b) event t = omega (arith, more_finished a event t, more_finished b event t)
  more_finished_of (more a rest) event t = omega (arith, more_finished a event t, more_finished_of rest event t)

  pub more_finished_last : (ms : Paths) (event : Event) (t : List Event) → last_ended ms t ≤ last_ended ms (event ∷ t)
  more_finished_last (two a b) event t = more_finished b event t
  more_finished_last (more a rest) event t = more_finished_last rest event t

pub no_rise : (b f b' f' : ℕ) → {r : ℕ} → b' ≡ b → f ≤ f' → (if (b - f == 0) && nat_lt 0 (b' - f') then 1 else 0) + r ≡ r
no_rise b f b' f' same grown = grind (arith, nat_tests)

-- an end starts nothing, and takes no finish back
mutual
  pub end_begins : (e : Path) (call : Call) (t : List Event) → started e (End call ∷ t) ≡ started e t
  end_begins (name op) call t = refl
  end_begins (list ms) call t = end_begins_of ms call t
  end_begins (sequence ms) call t = end_begins_first ms call t
  end_begins (bound n e) call t = end_begins e call t
  end_begins (burst e) call t = no_rise (started e t) (ended e t) (started e (End call ∷ t)) (ended e (End call ∷ t)) (end_begins e call t) (more_finished e (End call) t)

  pub end_begins_of : (ms : Paths) (call : Call) (t : List Event) → sum_started ms (End call ∷ t) ≡ sum_started ms t
  end_begins_of (two a b) call t = omega (arith, end_begins a call t, end_begins b call t)
  end_begins_of (more a rest) call t = omega (arith, end_begins a call t, end_begins_of rest call t)

  pub end_begins_first : (ms : Paths) (call : Call) (t : List Event) → first_started ms (End call ∷ t) ≡ first_started ms t
  end_begins_first (two a b) call t = end_begins a call t
  end_begins_first (more a rest) call t = end_begins a call t

-- a finish keeps what a path asks, at one moment
mutual
  pub end_holds : (e : Path) (call : Call) (t : List Event) → Holds e t → Holds e (End call ∷ t)
  end_holds (name op) call t h = tt
  end_holds (list ms) call t h = end_each ms call t h
  end_holds (sequence ms) call t h = (end_each ms call t h.0, end_turn ms call t h.1)
  end_holds (bound n e) call t h = (end_holds e call t h.0, omega (arith, h.1, end_begins e call t, more_finished e (End call) t))
  end_holds (burst e) call t h = end_holds e call t h

  pub end_each : (ms : Paths) (call : Call) (t : List Event) → EachHolds ms t → EachHolds ms (End call ∷ t)
  end_each (two a b) call t h = (end_holds a call t h.0, end_holds b call t h.1)
  end_each (more a rest) call t h = (end_holds a call t h.0, end_each rest call t h.1)

  pub end_turn : (ms : Paths) (call : Call) (t : List Event) → InTurn ms t → InTurn ms (End call ∷ t)
  end_turn (two a b) call t h = omega (arith, h, end_begins b call t, more_finished a (End call) t)
  end_turn (more a rest) call t h = (omega (arith, h.0, end_begins_first rest call t, more_finished a (End call) t), end_turn rest call t h.1)

pub holds_now : (e : Path) (t : List Event) → Satisfies e t → Holds e t
holds_now e [] h = h
holds_now e (event ∷ past) h = h.0

pub end_satisfies : (e : Path) (t : List Event) (call : Call) → Satisfies e t → Satisfies e (End call ∷ t)
end_satisfies e t call h = (end_holds e call t (holds_now e t h), h)

-- activations nest, at one moment
pub finished_le : (e : Path) (t : List Event) → Counted e t → ended e t ≤ started e t
finished_le (name op) t h = h
finished_le (list ms) t h = h.1
finished_le (sequence ms) t h = h.1
finished_le (bound n e) t h = h.1
finished_le (burst e) t h = h.1

pub finished_of : (ms : Paths) (t : List Event) → EachCounted ms t → (sum_ended ms t ≤ sum_started ms t) × (sum_started ms t - sum_ended ms t ≡ sum_active ms t)
finished_of (two a b) t h = let x = finished_le a t h.0 in let y = finished_le b t h.1 in (omega arith, omega arith)
finished_of (more a rest) t h = let x = finished_le a t h.0 in let y = finished_of rest t h.1 in (omega arith, omega arith)

pub in_turn_counts : (ms : Paths) (t : List Event) → EachCounted ms t → InTurn ms t → sum_active ms t + last_ended ms t ≤ first_started ms t
in_turn_counts (two a b) t h turn = omega (arith, finished_le a t h.0, finished_le b t h.1, turn)
in_turn_counts (more a rest) t h turn = omega (arith, finished_le a t h.0, in_turn_counts rest t h.1 turn.1, turn.0)

mutual
  pub counted : (e : Path) (t : List Event) → IsTrace t → Holds e t → Counted e t
  counted (name op) t trace h = omega (arith, started_or op t trace)
  counted (list ms) t trace h = let each = each_counted ms t trace h in (each, (finished_of ms t each).0, (finished_of ms t each).1)
  counted (sequence ms) t trace h =
      let each = each_counted ms t trace h.0 in
      let counts = in_turn_counts ms t each h.1 in
      (each, omega arith, omega arith)
  counted (bound n e) t trace h = let inner = counted e t trace h.0 in (inner, finished_le e t inner, refl, h.1)
  counted (burst e) t trace h = let counts = burst_counts e t in (counted e t trace h, omega arith, omega arith)

  pub each_counted : (ms : Paths) (t : List Event) → IsTrace t → EachHolds ms t → EachCounted ms t
  each_counted (two a b) t trace h = (counted a t trace h.0, counted b t trace h.1)
  each_counted (more a rest) t trace h = (counted a t trace h.0, each_counted rest t trace h.1)

pub counted_in : (e : Path) (t : List Event) → IsTrace t → Satisfies e t → Counted e t
counted_in e t trace h = counted e t trace (holds_now e t h)
