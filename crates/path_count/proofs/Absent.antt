-- What a call of an operation that a node does not name leaves as it is.
use Rattle.std.proofs.Common.{◌≡◌, ℕ, ◌+◌, ◌-◌, false, List, ◌∷◌, refl, arith, ap}
use Rattle.std.specs.Prelude.{◌==◌, nat_lt, ◌&&◌, if◌then◌else◌}
use Rattle.std.proofs.lemmas.Bool.Decides.{nat_tests}
use Rattle.path_tree.specs.Path.{Path, Paths, name, list, sequence, bound, burst, two, more}
use Rattle.path_tree.specs.Trace.{Call, Event, Start, End}
use Rattle.path_tree.specs.Counts.{started, ended, active, sum_ended, first_started, last_ended}
use Rattle.path_tree.specs.Satisfies.{Holds, EachHolds, InTurn}
use Rattle.path_tree.specs.Names.{names, some_names}
use Rattle.path_count.specs.PathCalls.{fired}
use Rattle.path_count.proofs.Due.{due, due_each, due_turns, times, round, round_all}
use Rattle.path_tree.proofs.CountLaws.{end_begins, end_begins_first}
use Rattle.path_tree.proofs.StartLaws.{absent_begins, absent_begins_first, start_finishes, start_finishes_of, start_finishes_last, either_false}

mutual
  pub absent_holds : (e : Path) (call : Call) (t : List Event) → names e call.operation ≡ false → Holds e t → Holds e (Start call ∷ t)
  absent_holds (name o) call t absent h = tt
  absent_holds (list ms) call t absent h = absent_each ms call t absent h
  absent_holds (sequence ms) call t absent h = (absent_each ms call t absent h.0, absent_turn ms call t absent h.1)
  absent_holds (bound n e) call t absent h = (absent_holds e call t absent h.0, omega (arith, h.1, absent_begins e call t absent, start_finishes e call t))
  absent_holds (burst e) call t absent h = absent_holds e call t absent h

  pub absent_each : (ms : Paths) (call : Call) (t : List Event) → some_names ms call.operation ≡ false → EachHolds ms t → EachHolds ms (Start call ∷ t)
  absent_each (two a b) call t absent h = let both = either_false (names a call.operation) (names b call.operation) absent in (absent_holds a call t both.0 h.0, absent_holds b call t both.1 h.1)
  absent_each (more a rest) call t absent h = let both = either_false (names a call.operation) (some_names rest call.operation) absent in (absent_holds a call t both.0 h.0, absent_each rest call t both.1 h.1)

  pub absent_turn : (ms : Paths) (call : Call) (t : List Event) → some_names ms call.operation ≡ false → InTurn ms t → InTurn ms (Start call ∷ t)
  absent_turn (two a b) call t absent h = omega (arith, h, absent_begins b call t (either_false (names a call.operation) (names b call.operation) absent).1, start_finishes a call t)
  absent_turn (more a rest) call t absent h = let both = either_false (names a call.operation) (some_names rest call.operation) absent in
      (omega (arith, h.0, absent_begins_first rest call t both.1, start_finishes a call t), absent_turn rest call t both.1 h.1)

pub no_end : (b f b' f' : ℕ) → {r : ℕ} → f' ≡ f → b' ≡ b → (if nat_lt 0 (b - f) && (b' - f' == 0) then 1 else 0) + r ≡ r
no_end b f b' f' same alike = grind (arith, nat_tests)

-- the end of an operation that a node does not name ends nothing in it
mutual
  pub absent_ends : (e : Path) (call : Call) (t : List Event) → names e call.operation ≡ false → ended e (End call ∷ t) ≡ ended e t
  absent_ends (name o) call t h = rw h (omega arith)
  absent_ends (list ms) call t h = absent_ends_of ms call t h
  absent_ends (sequence ms) call t h = absent_ends_last ms call t h
  absent_ends (bound n e) call t h = absent_ends e call t h
  absent_ends (burst e) call t h = no_end (started e t) (ended e t) (started e (End call ∷ t)) (ended e (End call ∷ t)) (absent_ends e call t h) (end_begins e call t)

  pub absent_ends_of : (ms : Paths) (call : Call) (t : List Event) → some_names ms call.operation ≡ false → sum_ended ms (End call ∷ t) ≡ sum_ended ms t
  absent_ends_of (two a b) call t h = let no = either_false (names a call.operation) (names b call.operation) h in omega (arith, absent_ends a call t no.0, absent_ends b call t no.1)
  absent_ends_of (more a rest) call t h = let no = either_false (names a call.operation) (some_names rest call.operation) h in omega (arith, absent_ends a call t no.0, absent_ends_of rest call t no.1)

  pub absent_ends_last : (ms : Paths) (call : Call) (t : List Event) → some_names ms call.operation ≡ false → last_ended ms (End call ∷ t) ≡ last_ended ms t
  absent_ends_last (two a b) call t h = absent_ends b call t (either_false (names a call.operation) (names b call.operation) h).1
  absent_ends_last (more a rest) call t h = absent_ends_last rest call t (either_false (names a call.operation) (some_names rest call.operation) h).1

-- a call alone of it changes no count of the node
pub fired_begun : (e : Path) (call : Call) (t : List Event) → names e call.operation ≡ false → started e (fired call t) ≡ started e t
fired_begun e call t h = omega (arith, end_begins e call (Start call ∷ t), absent_begins e call t h)

pub fired_first : (ms : Paths) (call : Call) (t : List Event) → some_names ms call.operation ≡ false → first_started ms (fired call t) ≡ first_started ms t
fired_first ms call t h = omega (arith, end_begins_first ms call (Start call ∷ t), absent_begins_first ms call t h)

pub fired_over : (e : Path) (call : Call) (t : List Event) → names e call.operation ≡ false → ended e (fired call t) ≡ ended e t
fired_over e call t h = omega (arith, absent_ends e call (Start call ∷ t) h, start_finishes e call t)

pub fired_over_of : (ms : Paths) (call : Call) (t : List Event) → some_names ms call.operation ≡ false → sum_ended ms (fired call t) ≡ sum_ended ms t
fired_over_of ms call t h = omega (arith, absent_ends_of ms call (Start call ∷ t) h, start_finishes_of ms call t)

pub fired_over_last : (ms : Paths) (call : Call) (t : List Event) → some_names ms call.operation ≡ false → last_ended ms (fired call t) ≡ last_ended ms t
fired_over_last ms call t h = omega (arith, absent_ends_last ms call (Start call ∷ t) h, start_finishes_last ms call t)

same_open : (k x y : ℕ) → x ≡ y → (if nat_lt 0 x then k else 0) ≡ (if nat_lt 0 y then k else 0)
same_open k x y same = ap (λ z. if nat_lt 0 z then k else 0) same

pub same_times : (x y k : ℕ) → x ≡ y → times x k ≡ times y k
same_times x y k same = ap (λ z. times z k) same

-- and leaves what is due
mutual
  pub absent_due : (w : ℕ → ℕ) (wanted : ℕ) (e : Path) (k : ℕ) (call : Call) (t : List Event) → names e call.operation ≡ false → due w wanted e k (fired call t) ≡ due w wanted e k t
  absent_due w wanted (name o) k call t h = refl
  absent_due w wanted (list ms) k call t h = absent_due_each w wanted ms k call t h
  absent_due w wanted (sequence ms) k call t h = absent_due_turns w wanted ms k call t h
  absent_due w wanted (bound n e) k call t h = absent_due w wanted e k call t h
  absent_due w wanted (burst e) k call t h = omega (
    arith,
    absent_due w wanted e 0 call t h,
    same_open k (active e (fired call t)) (active e t) (omega (arith, fired_begun e call t h, fired_over e call t h)),
  )

  pub absent_due_each : (w : ℕ → ℕ) (wanted : ℕ) (ms : Paths) (k : ℕ) (call : Call) (t : List Event) → some_names ms call.operation ≡ false → due_each w wanted ms k (fired call t) ≡ due_each w wanted ms k t
  absent_due_each w wanted (two a b) k call t h = let no = either_false (names a call.operation) (names b call.operation) h in omega (arith, absent_due w wanted a k call t no.0, absent_due w wanted b k call t no.1)
  absent_due_each w wanted (more a rest) k call t h = let no = either_false (names a call.operation) (some_names rest call.operation) h in omega (arith, absent_due w wanted a k call t no.0, absent_due_each w wanted rest k call t no.1)

  pub absent_due_turns : (w : ℕ → ℕ) (wanted : ℕ) (ms : Paths) (k : ℕ) (call : Call) (t : List Event) → some_names ms call.operation ≡ false → due_turns w wanted ms k (fired call t) ≡ due_turns w wanted ms k t
  absent_due_turns w wanted (two a b) k call t h = let no = either_false (names a call.operation) (names b call.operation) h in
      omega (
        arith,
        absent_due w wanted a (round w wanted b + k) call t no.0,
        absent_due w wanted b k call t no.1,
        same_times (ended a (fired call t) - started b (fired call t)) (ended a t - started b t) (round w wanted b + k) (omega (arith, fired_over a call t no.0, fired_begun b call t no.1)),
      )
  absent_due_turns w wanted (more a rest) k call t h = let no = either_false (names a call.operation) (some_names rest call.operation) h in
      omega (
        arith,
        absent_due w wanted a (round_all w wanted rest + k) call t no.0,
        absent_due_turns w wanted rest k call t no.1,
        same_times (ended a (fired call t) - first_started rest (fired call t)) (ended a t - first_started rest t) (round_all w wanted rest + k) (omega (arith, fired_over a call t no.0, fired_first rest call t no.1)),
      )
