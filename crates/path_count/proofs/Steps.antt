use Rattle.std.proofs.Common.{◌≡◌, ℕ, ◌+◌, ◌-◌, inl, Bool, true, false, List, [], ◌∷◌, ◌++◌, refl, ap, arith, ◌∙◌, get_or, append_assoc}
use Rattle.std.proofs.Math.ListN.{set}
use Rattle.std.specs.Prelude.{nat_lt, ◌&&◌, if◌then◌else◌}
use Rattle.path_tree.specs.Path.{Path, Paths, name, list, sequence, bound, burst, two, more}
use Rattle.path_tree.specs.Names.{names}
use Rattle.path_count.specs.Program.{slots, start_steps, list_start, turn_start, after_start, has_room}
use Rattle.path_count.specs.declared.program.Step.{Step}
use Rattle.path_count.specs.declared.program.Step.TheVariants as steps
use Rattle.path_count.proofs.PathWalk.{opens, opens_some, opens_first, after, after_some, after_turn, admits, admits_some, admits_turn, after_outside, turn_outside}

bound_after_start : (o : Bool) (q : List Step) (v : List ℕ) (at x y : ℕ) → y ≡ x →
    (if o then after_start q (set v at (y + 1)) else v) ≡ (if o then after_start q (if o then set v at (x + 1) else v) else (if o then set v at (x + 1) else v))
bound_after_start true q v at x y h = ap (λ z. after_start q (set v at (z + 1))) h
bound_after_start false q v at x y h = refl

burst_after_start : (o c : Bool) (q : List Step) (v : List ℕ) (at x y : ℕ) → y ≡ x → c ≡ nat_lt 0 x →
    (if o then (if nat_lt 0 y then set v at (y + 1) else after_start q (set v at (y + 1))) else v) ≡
    (if (if o then (if c then false else true) else false) then after_start q (if o then set v at (x + 1) else v) else (if o then set v at (x + 1) else v))
burst_after_start true true q v at x y h is = rw (h, ← is) refl
burst_after_start true false q v at x y h is = rw (h, ← is) refl
burst_after_start false c q v at x y h is = refl

turn_after_start : (o : Bool) (q : List Step) (v : List ℕ) (at x y : ℕ) → y ≡ x →
    (if o then set v at (y - 1) else v) ≡ (if o then set v at (x - 1) else v)
turn_after_start o q v at x y h = ap (λ z. if o then set v at (z - 1) else v) h

pub by_test : (after : List Step → List ℕ → List ℕ) (n : Bool) (w : List ℕ) (q s t : List Step) (c d : Bool) (x y : List ℕ) →
    after (s ++ q) w ≡ (if c then after q x else x) → after (t ++ q) w ≡ (if d then after q y else y) →
    after ((if n then s else t) ++ q) w ≡ (if (if n then c else d) then after q (if n then x else y) else (if n then x else y))
by_test after true w q s t c d x y first second = first
by_test after false w q s t c d x y first second = second

-- Along its steps a start does what it does on the path.
mutual
  pub start_walk : (e : Path) (at op : ℕ) (w : List ℕ) (q : List Step) →
      after_start (start_steps e at op ++ q) w ≡ (if opens e at op w then after_start q (after e at op w) else after e at op w)
  start_walk (name o) at op w q = refl
  start_walk (list ms) at op w q = start_walk_some ms at op w q
  start_walk (sequence ms) at op w q = start_walk_turn ms at op w q
  start_walk (bound n e) at op w q =
      ap (λ s. after_start s w) (append_assoc (start_steps e (at + 1) op) (steps.Bound at n ∷ []) q)
      ∙ start_walk e (at + 1) op w (steps.Bound at n ∷ q)
      ∙ bound_after_start (opens e (at + 1) op w) q (after e (at + 1) op w) at (get_or w at 0) (get_or (after e (at + 1) op w) at 0) (after_outside e (at + 1) op w at (inl (omega arith)))
  start_walk (burst e) at op w q =
      ap (λ s. after_start s w) (append_assoc (start_steps e (at + 1) op) (steps.Burst at ∷ []) q)
      ∙ start_walk e (at + 1) op w (steps.Burst at ∷ q)
      ∙ burst_after_start (opens e (at + 1) op w) (nat_lt 0 (get_or w at 0)) q (after e (at + 1) op w) at (get_or w at 0) (get_or (after e (at + 1) op w) at 0) (after_outside e (at + 1) op w at (inl (omega arith))) refl

  start_walk_some : (ms : Paths) (at op : ℕ) (w : List ℕ) (q : List Step) →
      after_start (list_start ms at op ++ q) w ≡ (if opens_some ms at op w then after_start q (after_some ms at op w) else after_some ms at op w)
  start_walk_some (two a b) at op w q = by_test after_start (names a op) w q (start_steps a (at + 1) op) (start_steps b ((at + 1) + slots a) op) (opens a (at + 1) op w) (opens b ((at + 1) + slots a) op w)
      (after a (at + 1) op w) (after b ((at + 1) + slots a) op w) (start_walk a (at + 1) op w q) (start_walk b ((at + 1) + slots a) op w q)
  start_walk_some (more a rest) at op w q = by_test after_start (names a op) w q (start_steps a (at + 1) op) (list_start rest ((at + 1) + slots a) op) (opens a (at + 1) op w) (opens_some rest ((at + 1) + slots a) op w)
      (after a (at + 1) op w) (after_some rest ((at + 1) + slots a) op w) (start_walk a (at + 1) op w q) (start_walk_some rest ((at + 1) + slots a) op w q)

  start_walk_turn : (ms : Paths) (at op : ℕ) (w : List ℕ) (q : List Step) →
      after_start (turn_start ms at op ++ q) w ≡ (if opens_first ms at op w then after_start q (after_turn ms at op w) else after_turn ms at op w)
  start_walk_turn (two a b) at op w q = let next = (at + 1) + slots a in
      by_test after_start (names a op) w q (start_steps a (at + 1) op) (start_steps b next op ++ steps.Turn at ∷ []) (opens a (at + 1) op w) false
      (after a (at + 1) op w) (if opens b next op w then set (after b next op w) at (get_or w at 0 - 1) else after b next op w) (start_walk a (at + 1) op w q)
      (ap (λ s. after_start s w) (append_assoc (start_steps b next op) (steps.Turn at ∷ []) q)
      ∙ start_walk b next op w (steps.Turn at ∷ q)
      ∙ turn_after_start (opens b next op w) q (after b next op w) at (get_or w at 0) (get_or (after b next op w) at 0) (after_outside b next op w at (inl (omega arith))))
  start_walk_turn (more a rest) at op w q = let next = (at + 1) + slots a in
      by_test after_start (names a op) w q (start_steps a (at + 1) op) (turn_start rest next op ++ steps.Turn at ∷ []) (opens a (at + 1) op w) false
      (after a (at + 1) op w) (if opens_first rest next op w then set (after_turn rest next op w) at (get_or w at 0 - 1) else after_turn rest next op w) (start_walk a (at + 1) op w q)
      (ap (λ s. after_start s w) (append_assoc (turn_start rest next op) (steps.Turn at ∷ []) q)
      ∙ start_walk_turn rest next op w (steps.Turn at ∷ q)
      ∙ turn_after_start (opens_first rest next op w) q (after_turn rest next op w) at (get_or w at 0) (get_or (after_turn rest next op w) at 0) (turn_outside rest next op w at (inl (omega arith))))

-- the same for the test
test_and : (o a c d : Bool) → (a && (if o then (if c then d else false) else true)) ≡ ((a && (if o then c else true)) && (if o then d else true))
test_and true true true d = refl
test_and true true false true = refl
test_and true true false false = refl
test_and true false true d = refl
test_and true false false d = refl
test_and false true c d = refl
test_and false false c d = refl

test_burst : (o a c d : Bool) → (a && (if o then (if c then true else d) else true)) ≡ (a && (if (if o then (if c then false else true) else false) then d else true))
test_burst true a true d = refl
test_burst true a false d = refl
test_burst false a c d = refl

test_turn : (o a c : Bool) → (a && (if o then c else true)) ≡ ((a && (if o then c else true)) && true)
test_turn true true true = refl
test_turn true true false = refl
test_turn true false c = refl
test_turn false true c = refl
test_turn false false c = refl

room_by_test : (n : Bool) (w : List ℕ) (q s t : List Step) (a b c d : Bool) →
    has_room (s ++ q) w ≡ (a && (if c then has_room q w else true)) → has_room (t ++ q) w ≡ (b && (if d then has_room q w else true)) →
    has_room ((if n then s else t) ++ q) w ≡ ((if n then a else b) && (if (if n then c else d) then has_room q w else true))
room_by_test true w q s t a b c d x y = x
room_by_test false w q s t a b c d x y = y

mutual
  pub room_walk : (e : Path) (at op : ℕ) (w : List ℕ) (q : List Step) →
      has_room (start_steps e at op ++ q) w ≡ (admits e at op w && (if opens e at op w then has_room q w else true))
  room_walk (name o) at op w q = refl
  room_walk (list ms) at op w q = room_some ms at op w q
  room_walk (sequence ms) at op w q = room_turn ms at op w q
  room_walk (bound n e) at op w q =
      ap (λ s. has_room s w) (append_assoc (start_steps e (at + 1) op) (steps.Bound at n ∷ []) q)
      ∙ room_walk e (at + 1) op w (steps.Bound at n ∷ q)
      ∙ test_and (opens e (at + 1) op w) (admits e (at + 1) op w) (nat_lt (get_or w at 0) n) (has_room q w)
  room_walk (burst e) at op w q =
      ap (λ s. has_room s w) (append_assoc (start_steps e (at + 1) op) (steps.Burst at ∷ []) q)
      ∙ room_walk e (at + 1) op w (steps.Burst at ∷ q)
      ∙ test_burst (opens e (at + 1) op w) (admits e (at + 1) op w) (nat_lt 0 (get_or w at 0)) (has_room q w)

  room_some : (ms : Paths) (at op : ℕ) (w : List ℕ) (q : List Step) →
      has_room (list_start ms at op ++ q) w ≡ (admits_some ms at op w && (if opens_some ms at op w then has_room q w else true))
  room_some (two a b) at op w q = room_by_test (names a op) w q (start_steps a (at + 1) op) (start_steps b ((at + 1) + slots a) op) (admits a (at + 1) op w) (admits b ((at + 1) + slots a) op w)
      (opens a (at + 1) op w) (opens b ((at + 1) + slots a) op w) (room_walk a (at + 1) op w q) (room_walk b ((at + 1) + slots a) op w q)
  room_some (more a rest) at op w q = room_by_test (names a op) w q (start_steps a (at + 1) op) (list_start rest ((at + 1) + slots a) op) (admits a (at + 1) op w) (admits_some rest ((at + 1) + slots a) op w)
      (opens a (at + 1) op w) (opens_some rest ((at + 1) + slots a) op w) (room_walk a (at + 1) op w q) (room_some rest ((at + 1) + slots a) op w q)

  room_turn : (ms : Paths) (at op : ℕ) (w : List ℕ) (q : List Step) →
      has_room (turn_start ms at op ++ q) w ≡ (admits_turn ms at op w && (if opens_first ms at op w then has_room q w else true))
  room_turn (two a b) at op w q = let next = (at + 1) + slots a in
      room_by_test (names a op) w q (start_steps a (at + 1) op) (start_steps b next op ++ steps.Turn at ∷ []) (admits a (at + 1) op w) (admits b next op w && (if opens b next op w then nat_lt 0 (get_or w at 0) else true))
      (opens a (at + 1) op w) false (room_walk a (at + 1) op w q)
      (ap (λ s. has_room s w) (append_assoc (start_steps b next op) (steps.Turn at ∷ []) q)
      ∙ room_walk b next op w (steps.Turn at ∷ q)
      ∙ test_turn (opens b next op w) (admits b next op w) (nat_lt 0 (get_or w at 0)))
  room_turn (more a rest) at op w q = let next = (at + 1) + slots a in
      room_by_test (names a op) w q (start_steps a (at + 1) op) (turn_start rest next op ++ steps.Turn at ∷ []) (admits a (at + 1) op w) (admits_turn rest next op w && (if opens_first rest next op w then nat_lt 0 (get_or w at 0) else true))
      (opens a (at + 1) op w) false (room_walk a (at + 1) op w q)
      (ap (λ s. has_room s w) (append_assoc (turn_start rest next op) (steps.Turn at ∷ []) q)
      ∙ room_turn rest next op w (steps.Turn at ∷ q)
      ∙ test_turn (opens_first rest next op w) (admits_turn rest next op w) (nat_lt 0 (get_or w at 0)))
