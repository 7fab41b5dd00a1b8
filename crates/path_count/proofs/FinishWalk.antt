-- A finish, by recursion on the path instead of along the steps.
use Rattle.std.proofs.Common.{◌≡◌, ℕ, ◌+◌, ◌-◌, ◌≤◌, Bool, true, false, List, refl, arith, length, get_or}
use Rattle.std.proofs.Math.ListN.{set}
use Rattle.std.specs.Prelude.{nat_lt, if◌then◌else◌}
use Rattle.path_tree.specs.Path.{Path, Paths, name, list, sequence, bound, burst, two, more}
use Rattle.path_tree.specs.Names.{names}
use Rattle.path_count.specs.Program.{slots, slots_of}
use Rattle.path_count.proofs.PathWalk.{choose, Outside, outside_wider, one_set, turn_set, length_set_if, raised}

-- the finish closes an activation of the node
abbrev mutual
  pub closes : Path → ℕ → ℕ → List ℕ → Bool
  closes (name o) at op w = true
  closes (list ms) at op w = closes_some ms at op w
  closes (sequence ms) at op w = closes_last ms at op w
  closes (bound n e) at op w = closes e (at + 1) op w
  closes (burst e) at op w = if closes e (at + 1) op w then (if nat_lt 1 (get_or w at 0) then false else true) else false

  pub closes_some : Paths → ℕ → ℕ → List ℕ → Bool
  closes_some (two a b) at op w = if names a op then closes a (at + 1) op w else closes b ((at + 1) + slots a) op w
  closes_some (more a rest) at op w = if names a op then closes a (at + 1) op w else closes_some rest ((at + 1) + slots a) op w

  pub closes_last : Paths → ℕ → ℕ → List ℕ → Bool
  closes_last (two a b) at op w = if names a op then false else closes b ((at + 1) + slots a) op w
  closes_last (more a rest) at op w = if names a op then false else closes_last rest ((at + 1) + slots a) op w

-- the counters after the finish
abbrev mutual
  pub left : Path → ℕ → ℕ → List ℕ → List ℕ
  left (name o) at op w = w
  left (list ms) at op w = left_some ms at op w
  left (sequence ms) at op w = left_turn ms at op w
  left (bound n e) at op w = if closes e (at + 1) op w then set (left e (at + 1) op w) at (get_or w at 0 - 1) else left e (at + 1) op w
  left (burst e) at op w = if closes e (at + 1) op w then set (left e (at + 1) op w) at (get_or w at 0 - 1) else left e (at + 1) op w

  pub left_some : Paths → ℕ → ℕ → List ℕ → List ℕ
  left_some (two a b) at op w = if names a op then left a (at + 1) op w else left b ((at + 1) + slots a) op w
  left_some (more a rest) at op w = if names a op then left a (at + 1) op w else left_some rest ((at + 1) + slots a) op w

  pub left_turn : Paths → ℕ → ℕ → List ℕ → List ℕ
  left_turn (two a b) at op w = if names a op then
      (if closes a (at + 1) op w then set (left a (at + 1) op w) at (get_or w at 0 + 1) else left a (at + 1) op w) else left b ((at + 1) + slots a) op w
  left_turn (more a rest) at op w = if names a op then
      (if closes a (at + 1) op w then set (left a (at + 1) op w) at (get_or w at 0 + 1) else left a (at + 1) op w) else left_turn rest ((at + 1) + slots a) op w

-- nothing outside the node's counters changes
mutual
  pub left_outside : (e : Path) (at op : ℕ) (w : List ℕ) → Outside (left e at op w) w at (slots e)
  left_outside (name o) at op w = λ k out. refl
  left_outside (list ms) at op w = left_some_outside ms at op w
  left_outside (sequence ms) at op w = left_turn_outside ms at op w
  left_outside (bound n e) at op w = one_set (closes e (at + 1) op w) (left e (at + 1) op w) w at (slots e) (get_or w at 0 - 1) (left_outside e (at + 1) op w)
  left_outside (burst e) at op w = one_set (closes e (at + 1) op w) (left e (at + 1) op w) w at (slots e) (get_or w at 0 - 1) (left_outside e (at + 1) op w)

  pub left_some_outside : (ms : Paths) (at op : ℕ) (w : List ℕ) → Outside (left_some ms at op w) w at (slots_of ms)
  left_some_outside (two a b) at op w = choose (λ v. Outside v w at ((1 + slots a) + slots b)) (names a op) (left a (at + 1) op w) (left b ((at + 1) + slots a) op w)
      (λ _. outside_wider (left a (at + 1) op w) w (at + 1) (slots a) at ((1 + slots a) + slots b) (left_outside a (at + 1) op w) (omega arith) (omega arith))
      (λ _. outside_wider (left b ((at + 1) + slots a) op w) w ((at + 1) + slots a) (slots b) at ((1 + slots a) + slots b) (left_outside b ((at + 1) + slots a) op w) (omega arith) (omega arith))
  left_some_outside (more a rest) at op w = choose (λ v. Outside v w at ((1 + slots a) + slots_of rest)) (names a op) (left a (at + 1) op w) (left_some rest ((at + 1) + slots a) op w)
      (λ _. outside_wider (left a (at + 1) op w) w (at + 1) (slots a) at ((1 + slots a) + slots_of rest) (left_outside a (at + 1) op w) (omega arith) (omega arith))
      (λ _. outside_wider (left_some rest ((at + 1) + slots a) op w) w ((at + 1) + slots a) (slots_of rest) at ((1 + slots a) + slots_of rest) (left_some_outside rest ((at + 1) + slots a) op w) (omega arith) (omega arith))

  pub left_turn_outside : (ms : Paths) (at op : ℕ) (w : List ℕ) → Outside (left_turn ms at op w) w at (slots_of ms)
  left_turn_outside (two a b) at op w =
      let v = left a (at + 1) op w in
      let here = outside_wider v w (at + 1) (slots a) (at + 1) (slots a + slots b) (left_outside a (at + 1) op w) (omega arith) (omega arith) in
      choose (λ v. Outside v w at ((1 + slots a) + slots b)) (names a op) (if closes a (at + 1) op w then set v at (get_or w at 0 + 1) else v) (left b ((at + 1) + slots a) op w)
      (λ _. turn_set (closes a (at + 1) op w) v w at (slots a) (slots b) (get_or w at 0 + 1) here)
      (λ _. outside_wider (left b ((at + 1) + slots a) op w) w ((at + 1) + slots a) (slots b) at ((1 + slots a) + slots b) (left_outside b ((at + 1) + slots a) op w) (omega arith) (omega arith))
  left_turn_outside (more a rest) at op w =
      let v = left a (at + 1) op w in
      let here = outside_wider v w (at + 1) (slots a) (at + 1) (slots a + slots_of rest) (left_outside a (at + 1) op w) (omega arith) (omega arith) in
      choose (λ v. Outside v w at ((1 + slots a) + slots_of rest)) (names a op) (if closes a (at + 1) op w then set v at (get_or w at 0 + 1) else v) (left_turn rest ((at + 1) + slots a) op w)
      (λ _. turn_set (closes a (at + 1) op w) v w at (slots a) (slots_of rest) (get_or w at 0 + 1) here)
      (λ _. outside_wider (left_turn rest ((at + 1) + slots a) op w) w ((at + 1) + slots a) (slots_of rest) at ((1 + slots a) + slots_of rest) (left_turn_outside rest ((at + 1) + slots a) op w) (omega arith) (omega arith))

-- as many counters as before
mutual
  pub left_length : (e : Path) (at op : ℕ) (w : List ℕ) → length (left e at op w) ≡ length w
  left_length (name o) at op w = refl
  left_length (list ms) at op w = left_some_length ms at op w
  left_length (sequence ms) at op w = left_turn_length ms at op w
  left_length (bound n e) at op w = length_set_if (closes e (at + 1) op w) (left e (at + 1) op w) w at (get_or w at 0 - 1) (left_length e (at + 1) op w)
  left_length (burst e) at op w = length_set_if (closes e (at + 1) op w) (left e (at + 1) op w) w at (get_or w at 0 - 1) (left_length e (at + 1) op w)

  pub left_some_length : (ms : Paths) (at op : ℕ) (w : List ℕ) → length (left_some ms at op w) ≡ length w
  left_some_length (two a b) at op w = choose (λ v. length v ≡ length w) (names a op) (left a (at + 1) op w) (left b ((at + 1) + slots a) op w)
      (λ _. left_length a (at + 1) op w) (λ _. left_length b ((at + 1) + slots a) op w)
  left_some_length (more a rest) at op w = choose (λ v. length v ≡ length w) (names a op) (left a (at + 1) op w) (left_some rest ((at + 1) + slots a) op w)
      (λ _. left_length a (at + 1) op w) (λ _. left_some_length rest ((at + 1) + slots a) op w)

  pub left_turn_length : (ms : Paths) (at op : ℕ) (w : List ℕ) → length (left_turn ms at op w) ≡ length w
  left_turn_length (two a b) at op w = let v = left a (at + 1) op w in
      choose (λ v. length v ≡ length w) (names a op) (if closes a (at + 1) op w then set v at (get_or w at 0 + 1) else v) (left b ((at + 1) + slots a) op w)
      (λ _. length_set_if (closes a (at + 1) op w) v w at (get_or w at 0 + 1) (left_length a (at + 1) op w))
      (λ _. left_length b ((at + 1) + slots a) op w)
  left_turn_length (more a rest) at op w = let v = left a (at + 1) op w in
      choose (λ v. length v ≡ length w) (names a op) (if closes a (at + 1) op w then set v at (get_or w at 0 + 1) else v) (left_turn rest ((at + 1) + slots a) op w)
      (λ _. length_set_if (closes a (at + 1) op w) v w at (get_or w at 0 + 1) (left_length a (at + 1) op w))
      (λ _. left_turn_length rest ((at + 1) + slots a) op w)

-- no counter grows by more than one
mutual
  pub left_raised : (e : Path) (at op : ℕ) (w : List ℕ) (k : ℕ) → get_or (left e at op w) k 0 ≤ get_or w k 0 + 1
  left_raised (name o) at op w k = omega arith
  left_raised (list ms) at op w k = left_some_raised ms at op w k
  left_raised (sequence ms) at op w k = left_turn_raised ms at op w k
  left_raised (bound n e) at op w k = raised (closes e (at + 1) op w) (left e (at + 1) op w) w at k (get_or w at 0 - 1) (left_raised e (at + 1) op w k) (omega arith)
  left_raised (burst e) at op w k = raised (closes e (at + 1) op w) (left e (at + 1) op w) w at k (get_or w at 0 - 1) (left_raised e (at + 1) op w k) (omega arith)

  left_some_raised : (ms : Paths) (at op : ℕ) (w : List ℕ) (k : ℕ) → get_or (left_some ms at op w) k 0 ≤ get_or w k 0 + 1
  left_some_raised (two a b) at op w k = choose (λ v. get_or v k 0 ≤ get_or w k 0 + 1) (names a op) (left a (at + 1) op w) (left b ((at + 1) + slots a) op w)
      (λ _. left_raised a (at + 1) op w k) (λ _. left_raised b ((at + 1) + slots a) op w k)
  left_some_raised (more a rest) at op w k = choose (λ v. get_or v k 0 ≤ get_or w k 0 + 1) (names a op) (left a (at + 1) op w) (left_some rest ((at + 1) + slots a) op w)
      (λ _. left_raised a (at + 1) op w k) (λ _. left_some_raised rest ((at + 1) + slots a) op w k)

  left_turn_raised : (ms : Paths) (at op : ℕ) (w : List ℕ) (k : ℕ) → get_or (left_turn ms at op w) k 0 ≤ get_or w k 0 + 1
  left_turn_raised (two a b) at op w k = let u = left a (at + 1) op w in
      choose (λ v. get_or v k 0 ≤ get_or w k 0 + 1) (names a op) (if closes a (at + 1) op w then set u at (get_or w at 0 + 1) else u) (left b ((at + 1) + slots a) op w)
      (λ _. raised (closes a (at + 1) op w) u w at k (get_or w at 0 + 1) (left_raised a (at + 1) op w k) (omega arith))
      (λ _. left_raised b ((at + 1) + slots a) op w k)
  left_turn_raised (more a rest) at op w k = let u = left a (at + 1) op w in
      choose (λ v. get_or v k 0 ≤ get_or w k 0 + 1) (names a op) (if closes a (at + 1) op w then set u at (get_or w at 0 + 1) else u) (left_turn rest ((at + 1) + slots a) op w)
      (λ _. raised (closes a (at + 1) op w) u w at k (get_or w at 0 + 1) (left_raised a (at + 1) op w k) (omega arith))
      (λ _. left_turn_raised rest ((at + 1) + slots a) op w k)
