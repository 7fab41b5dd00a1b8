-- What a start does to the counts.
use Rattle.std.proofs.Common.{◌≡◌, ℕ, ◌+◌, ◌-◌, ◌≤◌, Bool, true, false, List, ◌∷◌, refl, arith}
use Rattle.std.specs.Prelude.{◌==◌, nat_lt, ◌&&◌, ◌||◌, if◌then◌else◌}
use Rattle.std.proofs.lemmas.Bool.Decides.{nat_tests}
use Rattle.path_tree.specs.Path.{Path, Paths, name, list, sequence, bound, burst, two, more}
use Rattle.path_tree.specs.Trace.{Call, Event, Start, End}
use Rattle.path_tree.specs.Counts.{started, ended, sum_started, sum_ended, first_started, last_ended}
use Rattle.path_tree.specs.Names.{names, some_names}
use Rattle.path_tree.proofs.CountLaws.{no_rise}

-- no count of beginnings falls
mutual
  pub more_begun : (e : Path) (event : Event) (t : List Event) → started e t ≤ started e (event ∷ t)
  more_begun (name op) (Start call) t = omega arith
  more_begun (name op) (End call) t = omega arith
  more_begun (list ms) event t = more_begun_of ms event t
  more_begun (sequence ms) event t = more_begun_first ms event t
  more_begun (bound n e) event t = more_begun e event t
  more_begun (burst e) event t = omega arith

  pub more_begun_of : (ms : Paths) (event : Event) (t : List Event) → sum_started ms t ≤ sum_started ms (event ∷ t)
  more_begun_of (two a b) event t = omega (arith, more_begun a event t, more_begun b event t)
  more_begun_of (more a rest) event t = omega (arith, more_begun a event t, more_begun_of rest event t)

  pub more_begun_first : (ms : Paths) (event : Event) (t : List Event) → first_started ms t ≤ first_started ms (event ∷ t)
  more_begun_first (two a b) event t = more_begun a event t
  more_begun_first (more a rest) event t = more_begun a event t

no_fall : (b f b' f' : ℕ) → {r : ℕ} → f' ≡ f → b ≤ b' → (if nat_lt 0 (b - f) && (b' - f' == 0) then 1 else 0) + r ≡ r
no_fall b f b' f' same grown = grind (arith, nat_tests)

-- a start ends nothing
mutual
  pub start_finishes : (e : Path) (call : Call) (t : List Event) → ended e (Start call ∷ t) ≡ ended e t
  start_finishes (name op) call t = refl
  start_finishes (list ms) call t = start_finishes_of ms call t
  start_finishes (sequence ms) call t = start_finishes_last ms call t
  start_finishes (bound n e) call t = start_finishes e call t
  start_finishes (burst e) call t = no_fall (started e t) (ended e t) (started e (Start call ∷ t)) (ended e (Start call ∷ t)) (start_finishes e call t) (more_begun e (Start call) t)

  pub start_finishes_of : (ms : Paths) (call : Call) (t : List Event) → sum_ended ms (Start call ∷ t) ≡ sum_ended ms t
  start_finishes_of (two a b) call t = omega (arith, start_finishes a call t, start_finishes b call t)
  start_finishes_of (more a rest) call t = omega (arith, start_finishes a call t, start_finishes_of rest call t)

  pub start_finishes_last : (ms : Paths) (call : Call) (t : List Event) → last_ended ms (Start call ∷ t) ≡ last_ended ms t
  start_finishes_last (two a b) call t = start_finishes b call t
  start_finishes_last (more a rest) call t = start_finishes_last rest call t

pub either_false : (x y : Bool) → x || y ≡ false → (x ≡ false) × (y ≡ false)
either_false true y h = absurd (cc)
either_false false y h = (refl, h)

-- the start of an operation that a node does not name starts nothing in it
mutual
  pub absent_begins : (e : Path) (call : Call) (t : List Event) → names e call.operation ≡ false → started e (Start call ∷ t) ≡ started e t
  absent_begins (name o) call t h = rw h (omega arith)
  absent_begins (list ms) call t h = absent_begins_of ms call t h
  absent_begins (sequence ms) call t h = absent_begins_first ms call t h
  absent_begins (bound n e) call t h = absent_begins e call t h
  absent_begins (burst e) call t h = no_rise (started e t) (ended e t) (started e (Start call ∷ t)) (ended e (Start call ∷ t)) (absent_begins e call t h) (omega (arith, start_finishes e call t))

  pub absent_begins_of : (ms : Paths) (call : Call) (t : List Event) → some_names ms call.operation ≡ false → sum_started ms (Start call ∷ t) ≡ sum_started ms t
  absent_begins_of (two a b) call t h = let no = either_false (names a call.operation) (names b call.operation) h in omega (arith, absent_begins a call t no.0, absent_begins b call t no.1)
  absent_begins_of (more a rest) call t h = let no = either_false (names a call.operation) (some_names rest call.operation) h in omega (arith, absent_begins a call t no.0, absent_begins_of rest call t no.1)

  pub absent_begins_first : (ms : Paths) (call : Call) (t : List Event) → some_names ms call.operation ≡ false → first_started ms (Start call ∷ t) ≡ first_started ms t
  absent_begins_first (two a b) call t h = absent_begins a call t (either_false (names a call.operation) (names b call.operation) h).0
  absent_begins_first (more a rest) call t h = absent_begins a call t (either_false (names a call.operation) (some_names rest call.operation) h).0
