-- A start, by recursion on the path instead of along the steps.
use Rattle.std.proofs.Common.{◌≡◌, ◌≢◌, ℕ, ◌+◌, ◌-◌, ◌<◌, ◌≤◌, ◌⊎◌, inl, inr, Bool, true, false, List, refl, ap, arith, sym, ◌∙◌, length, get_or, subst}
use Rattle.std.proofs.Math.ListN.{set}
use Rattle.std.specs.Prelude.{nat_lt, ◌&&◌, ◌||◌, if◌then◌else◌}
use Rattle.std.proofs.lemmas.Bool.Decides.{leb_tells, eqb_tells}
use Rattle.std.proofs.lemmas.List.{get_or-set_same, get_or-set_other, length-set, set_past}
use Rattle.path_tree.specs.Path.{Path, Paths, name, list, sequence, bound, burst, two, more}
use Rattle.path_tree.specs.Trace.{Event}
use Rattle.path_tree.specs.Names.{names}
use Rattle.path_count.specs.Program.{slots, slots_of}
use Rattle.path_count.specs.Kept.{Kept, KeptEach, KeptTurns}

-- the start opens one more activation of the node
abbrev mutual
  pub opens : Path → ℕ → ℕ → List ℕ → Bool
  opens (name o) at op w = true
  opens (list ms) at op w = opens_some ms at op w
  opens (sequence ms) at op w = opens_first ms at op w
  opens (bound n e) at op w = opens e (at + 1) op w
  opens (burst e) at op w = if opens e (at + 1) op w then (if nat_lt 0 (get_or w at 0) then false else true) else false

  pub opens_some : Paths → ℕ → ℕ → List ℕ → Bool
  opens_some (two a b) at op w = if names a op then opens a (at + 1) op w else opens b ((at + 1) + slots a) op w
  opens_some (more a rest) at op w = if names a op then opens a (at + 1) op w else opens_some rest ((at + 1) + slots a) op w

  pub opens_first : Paths → ℕ → ℕ → List ℕ → Bool
  opens_first (two a b) at op w = if names a op then opens a (at + 1) op w else false
  opens_first (more a rest) at op w = if names a op then opens a (at + 1) op w else false

-- the counters after the start
abbrev mutual
  pub after : Path → ℕ → ℕ → List ℕ → List ℕ
  after (name o) at op w = w
  after (list ms) at op w = after_some ms at op w
  after (sequence ms) at op w = after_turn ms at op w
  after (bound n e) at op w = if opens e (at + 1) op w then set (after e (at + 1) op w) at (get_or w at 0 + 1) else after e (at + 1) op w
  after (burst e) at op w = if opens e (at + 1) op w then set (after e (at + 1) op w) at (get_or w at 0 + 1) else after e (at + 1) op w

  pub after_some : Paths → ℕ → ℕ → List ℕ → List ℕ
  after_some (two a b) at op w = if names a op then after a (at + 1) op w else after b ((at + 1) + slots a) op w
  after_some (more a rest) at op w = if names a op then after a (at + 1) op w else after_some rest ((at + 1) + slots a) op w

  pub after_turn : Paths → ℕ → ℕ → List ℕ → List ℕ
  after_turn (two a b) at op w = if names a op then after a (at + 1) op w else
      (if opens b ((at + 1) + slots a) op w then set (after b ((at + 1) + slots a) op w) at (get_or w at 0 - 1) else after b ((at + 1) + slots a) op w)
  after_turn (more a rest) at op w = if names a op then after a (at + 1) op w else
      (if opens_first rest ((at + 1) + slots a) op w then set (after_turn rest ((at + 1) + slots a) op w) at (get_or w at 0 - 1) else after_turn rest ((at + 1) + slots a) op w)

-- the counters admit the start
abbrev mutual
  pub admits : Path → ℕ → ℕ → List ℕ → Bool
  admits (name o) at op w = true
  admits (list ms) at op w = admits_some ms at op w
  admits (sequence ms) at op w = admits_turn ms at op w
  admits (bound n e) at op w = admits e (at + 1) op w && (if opens e (at + 1) op w then nat_lt (get_or w at 0) n else true)
  admits (burst e) at op w = admits e (at + 1) op w

  pub admits_some : Paths → ℕ → ℕ → List ℕ → Bool
  admits_some (two a b) at op w = if names a op then admits a (at + 1) op w else admits b ((at + 1) + slots a) op w
  admits_some (more a rest) at op w = if names a op then admits a (at + 1) op w else admits_some rest ((at + 1) + slots a) op w

  pub admits_turn : Paths → ℕ → ℕ → List ℕ → Bool
  admits_turn (two a b) at op w = if names a op then admits a (at + 1) op w else
      (admits b ((at + 1) + slots a) op w && (if opens b ((at + 1) + slots a) op w then nat_lt 0 (get_or w at 0) else true))
  admits_turn (more a rest) at op w = if names a op then admits a (at + 1) op w else
      (admits_turn rest ((at + 1) + slots a) op w && (if opens_first rest ((at + 1) + slots a) op w then nat_lt 0 (get_or w at 0) else true))

-- a choice by a test has what both sides have
pub choose : {X : Type 0} (P : X → Type 0) (b : Bool) (x y : X) → (b ≡ true → P x) → (b ≡ false → P y) → P (if b then x else y)
choose P true x y if_so if_not = if_so refl
choose P false x y if_so if_not = if_not refl

pub or_right : (x y : Bool) → x || y ≡ true → x ≡ false → y ≡ true
or_right true y h absent = absurd (cc)
or_right false y h absent = h

-- nothing outside the node's counters changes
abbrev pub Outside : List ℕ → List ℕ → ℕ → ℕ → Type 0
Outside v w at size = (k : ℕ) → (k < at) ⊎ (at + size ≤ k) → get_or v k 0 ≡ get_or w k 0

pub outside_set : (v w : List ℕ) (at size x : ℕ) → Outside v w (at + 1) size → Outside (set v at x) w at (1 + size)
outside_set v w at size x h k out = let ne : k ≢ at = elim out [ inl below ↦ omega arith | inr above ↦ omega arith ] in
    get_or-set_other v at k x 0 ne ∙ h k (elim out [ inl below ↦ inl (omega arith) | inr above ↦ inr (omega arith) ])

pub outside_wider : (v w : List ℕ) (at size at' size' : ℕ) → Outside v w at size → at' ≤ at → at + size ≤ at' + size' → Outside v w at' size'
outside_wider v w at size at' size' h lo hi k out = h k (elim out [ inl below ↦ inl (omega arith) | inr above ↦ inr (omega arith) ])

pub one_set : (o : Bool) (v w : List ℕ) (at n x : ℕ) → Outside v w (at + 1) n → Outside (if o then set v at x else v) w at (1 + n)
one_set o v w at n x h = choose (λ u. Outside u w at (1 + n)) o (set v at x) v
    (λ _. outside_set v w at n x h) (λ _. outside_wider v w (at + 1) n at (1 + n) h (omega arith) (omega arith))

pub turn_set : (o : Bool) (v w : List ℕ) (at m n x : ℕ) → Outside v w (at + 1) (m + n) → Outside (if o then set v at x else v) w at ((1 + m) + n)
turn_set o v w at m n x h = choose (λ u. Outside u w at ((1 + m) + n)) o (set v at x) v
    (λ _. outside_wider (set v at x) w at (1 + (m + n)) at ((1 + m) + n) (outside_set v w at (m + n) x h) (omega arith) (omega arith))
    (λ _. outside_wider v w (at + 1) (m + n) at ((1 + m) + n) h (omega arith) (omega arith))

mutual
  pub after_outside : (e : Path) (at op : ℕ) (w : List ℕ) → Outside (after e at op w) w at (slots e)
  after_outside (name o) at op w = λ k out. refl
  after_outside (list ms) at op w = some_outside ms at op w
  after_outside (sequence ms) at op w = turn_outside ms at op w
  after_outside (bound n e) at op w = choose (λ v. Outside v w at (1 + slots e)) (opens e (at + 1) op w) (set (after e (at + 1) op w) at (get_or w at 0 + 1)) (after e (at + 1) op w)
      (λ _. outside_set (after e (at + 1) op w) w at (slots e) (get_or w at 0 + 1) (after_outside e (at + 1) op w))
      (λ _. outside_wider (after e (at + 1) op w) w (at + 1) (slots e) at (1 + slots e) (after_outside e (at + 1) op w) (omega arith) (omega arith))
  after_outside (burst e) at op w = choose (λ v. Outside v w at (1 + slots e)) (opens e (at + 1) op w) (set (after e (at + 1) op w) at (get_or w at 0 + 1)) (after e (at + 1) op w)
      (λ _. outside_set (after e (at + 1) op w) w at (slots e) (get_or w at 0 + 1) (after_outside e (at + 1) op w))
      (λ _. outside_wider (after e (at + 1) op w) w (at + 1) (slots e) at (1 + slots e) (after_outside e (at + 1) op w) (omega arith) (omega arith))

  pub some_outside : (ms : Paths) (at op : ℕ) (w : List ℕ) → Outside (after_some ms at op w) w at (slots_of ms)
  some_outside (two a b) at op w = choose (λ v. Outside v w at ((1 + slots a) + slots b)) (names a op) (after a (at + 1) op w) (after b ((at + 1) + slots a) op w)
      (λ _. outside_wider (after a (at + 1) op w) w (at + 1) (slots a) at ((1 + slots a) + slots b) (after_outside a (at + 1) op w) (omega arith) (omega arith))
      (λ _. outside_wider (after b ((at + 1) + slots a) op w) w ((at + 1) + slots a) (slots b) at ((1 + slots a) + slots b) (after_outside b ((at + 1) + slots a) op w) (omega arith) (omega arith))
  some_outside (more a rest) at op w = choose (λ v. Outside v w at ((1 + slots a) + slots_of rest)) (names a op) (after a (at + 1) op w) (after_some rest ((at + 1) + slots a) op w)
      (λ _. outside_wider (after a (at + 1) op w) w (at + 1) (slots a) at ((1 + slots a) + slots_of rest) (after_outside a (at + 1) op w) (omega arith) (omega arith))
      (λ _. outside_wider (after_some rest ((at + 1) + slots a) op w) w ((at + 1) + slots a) (slots_of rest) at ((1 + slots a) + slots_of rest) (some_outside rest ((at + 1) + slots a) op w) (omega arith) (omega arith))

  pub turn_outside : (ms : Paths) (at op : ℕ) (w : List ℕ) → Outside (after_turn ms at op w) w at (slots_of ms)
  turn_outside (two a b) at op w =
      let later = outside_wider (after b ((at + 1) + slots a) op w) w ((at + 1) + slots a) (slots b) (at + 1) (slots a + slots b) (after_outside b ((at + 1) + slots a) op w) (omega arith) (omega arith) in
      choose (λ v. Outside v w at ((1 + slots a) + slots b)) (names a op) (after a (at + 1) op w)
      (if opens b ((at + 1) + slots a) op w then set (after b ((at + 1) + slots a) op w) at (get_or w at 0 - 1) else after b ((at + 1) + slots a) op w)
      (λ _. outside_wider (after a (at + 1) op w) w (at + 1) (slots a) at ((1 + slots a) + slots b) (after_outside a (at + 1) op w) (omega arith) (omega arith))
      (λ _. turn_set (opens b ((at + 1) + slots a) op w) (after b ((at + 1) + slots a) op w) w at (slots a) (slots b) (get_or w at 0 - 1) later)
  turn_outside (more a rest) at op w =
      let later = outside_wider (after_turn rest ((at + 1) + slots a) op w) w ((at + 1) + slots a) (slots_of rest) (at + 1) (slots a + slots_of rest) (turn_outside rest ((at + 1) + slots a) op w) (omega arith) (omega arith) in
      choose (λ v. Outside v w at ((1 + slots a) + slots_of rest)) (names a op) (after a (at + 1) op w)
      (if opens_first rest ((at + 1) + slots a) op w then set (after_turn rest ((at + 1) + slots a) op w) at (get_or w at 0 - 1) else after_turn rest ((at + 1) + slots a) op w)
      (λ _. outside_wider (after a (at + 1) op w) w (at + 1) (slots a) at ((1 + slots a) + slots_of rest) (after_outside a (at + 1) op w) (omega arith) (omega arith))
      (λ _. turn_set (opens_first rest ((at + 1) + slots a) op w) (after_turn rest ((at + 1) + slots a) op w) w at (slots a) (slots_of rest) (get_or w at 0 - 1) later)

pub length_set_if : (o : Bool) (v w : List ℕ) (at x : ℕ) → length v ≡ length w → length (if o then set v at x else v) ≡ length w
length_set_if true v w at x h = length-set v at x ∙ h
length_set_if false v w at x h = h

-- as many counters as before
mutual
  pub after_length : (e : Path) (at op : ℕ) (w : List ℕ) → length (after e at op w) ≡ length w
  after_length (name o) at op w = refl
  after_length (list ms) at op w = some_length ms at op w
  after_length (sequence ms) at op w = turn_length ms at op w
  after_length (bound n e) at op w = length_set_if (opens e (at + 1) op w) (after e (at + 1) op w) w at (get_or w at 0 + 1) (after_length e (at + 1) op w)
  after_length (burst e) at op w = length_set_if (opens e (at + 1) op w) (after e (at + 1) op w) w at (get_or w at 0 + 1) (after_length e (at + 1) op w)

  pub some_length : (ms : Paths) (at op : ℕ) (w : List ℕ) → length (after_some ms at op w) ≡ length w
  some_length (two a b) at op w = choose (λ v. length v ≡ length w) (names a op) (after a (at + 1) op w) (after b ((at + 1) + slots a) op w)
      (λ _. after_length a (at + 1) op w) (λ _. after_length b ((at + 1) + slots a) op w)
  some_length (more a rest) at op w = choose (λ v. length v ≡ length w) (names a op) (after a (at + 1) op w) (after_some rest ((at + 1) + slots a) op w)
      (λ _. after_length a (at + 1) op w) (λ _. some_length rest ((at + 1) + slots a) op w)

  pub turn_length : (ms : Paths) (at op : ℕ) (w : List ℕ) → length (after_turn ms at op w) ≡ length w
  turn_length (two a b) at op w = choose (λ v. length v ≡ length w) (names a op) (after a (at + 1) op w) (if opens b ((at + 1) + slots a) op w then set (after b ((at + 1) + slots a) op w) at (get_or w at 0 - 1) else after b ((at + 1) + slots a) op w)
      (λ _. after_length a (at + 1) op w)
      (λ _. length_set_if (opens b ((at + 1) + slots a) op w) (after b ((at + 1) + slots a) op w) w at (get_or w at 0 - 1) (after_length b ((at + 1) + slots a) op w))
  turn_length (more a rest) at op w = choose (λ v. length v ≡ length w) (names a op) (after a (at + 1) op w) (if opens_first rest ((at + 1) + slots a) op w then set (after_turn rest ((at + 1) + slots a) op w) at (get_or w at 0 - 1) else after_turn rest ((at + 1) + slots a) op w)
      (λ _. after_length a (at + 1) op w)
      (λ _. length_set_if (opens_first rest ((at + 1) + slots a) op w) (after_turn rest ((at + 1) + slots a) op w) w at (get_or w at 0 - 1) (turn_length rest ((at + 1) + slots a) op w))

-- no counter grows by more than one
pub raised : (o : Bool) (v w : List ℕ) (at k x : ℕ) → get_or v k 0 ≤ get_or w k 0 + 1 → x ≤ get_or w at 0 + 1 → get_or (if o then set v at x else v) k 0 ≤ get_or w k 0 + 1
raised true v w at k x h top = elim (eqb_tells k at) [
  | inl same ↦ elim (leb_tells (length v) at) [
    | inl past ↦ subst (λ u. get_or u k 0 ≤ get_or w k 0 + 1) (sym (set_past v at x past.1)) h
    | inr within ↦ omega (arith, same.1, ap (λ i. get_or (set v at x) i 0) same.1, get_or-set_same v at x 0 within.1, ap (λ i. get_or w i 0) same.1, top)
  ]
  | inr other ↦ omega (arith, get_or-set_other v at k x 0 other.1, h)
]
raised false v w at k x h top = h

mutual
  pub after_raised : (e : Path) (at op : ℕ) (w : List ℕ) (k : ℕ) → get_or (after e at op w) k 0 ≤ get_or w k 0 + 1
  after_raised (name o) at op w k = omega arith
  after_raised (list ms) at op w k = some_raised ms at op w k
  after_raised (sequence ms) at op w k = turn_raised ms at op w k
  after_raised (bound n e) at op w k = raised (opens e (at + 1) op w) (after e (at + 1) op w) w at k (get_or w at 0 + 1) (after_raised e (at + 1) op w k) (omega arith)
  after_raised (burst e) at op w k = raised (opens e (at + 1) op w) (after e (at + 1) op w) w at k (get_or w at 0 + 1) (after_raised e (at + 1) op w k) (omega arith)

  some_raised : (ms : Paths) (at op : ℕ) (w : List ℕ) (k : ℕ) → get_or (after_some ms at op w) k 0 ≤ get_or w k 0 + 1
  some_raised (two a b) at op w k = choose (λ v. get_or v k 0 ≤ get_or w k 0 + 1) (names a op) (after a (at + 1) op w) (after b ((at + 1) + slots a) op w) (λ _. after_raised a (at + 1) op w k) (λ _. after_raised b ((at + 1) + slots a) op w k)
  some_raised (more a rest) at op w k = choose (λ v. get_or v k 0 ≤ get_or w k 0 + 1) (names a op) (after a (at + 1) op w) (after_some rest ((at + 1) + slots a) op w) (λ _. after_raised a (at + 1) op w k) (λ _. some_raised rest ((at + 1) + slots a) op w k)

  turn_raised : (ms : Paths) (at op : ℕ) (w : List ℕ) (k : ℕ) → get_or (after_turn ms at op w) k 0 ≤ get_or w k 0 + 1
  turn_raised (two a b) at op w k = choose (λ v. get_or v k 0 ≤ get_or w k 0 + 1) (names a op) (after a (at + 1) op w)
      (if opens b ((at + 1) + slots a) op w then set (after b ((at + 1) + slots a) op w) at (get_or w at 0 - 1) else after b ((at + 1) + slots a) op w)
      (λ _. after_raised a (at + 1) op w k) (λ _. raised (opens b ((at + 1) + slots a) op w) (after b ((at + 1) + slots a) op w) w at k (get_or w at 0 - 1) (after_raised b ((at + 1) + slots a) op w k) (omega arith))
  turn_raised (more a rest) at op w k = choose (λ v. get_or v k 0 ≤ get_or w k 0 + 1) (names a op) (after a (at + 1) op w)
      (if opens_first rest ((at + 1) + slots a) op w then set (after_turn rest ((at + 1) + slots a) op w) at (get_or w at 0 - 1) else after_turn rest ((at + 1) + slots a) op w)
      (λ _. after_raised a (at + 1) op w k) (λ _. raised (opens_first rest ((at + 1) + slots a) op w) (after_turn rest ((at + 1) + slots a) op w) w at k (get_or w at 0 - 1) (turn_raised rest ((at + 1) + slots a) op w k) (omega arith))

-- the counters of a node are the same
abbrev pub Same : List ℕ → List ℕ → ℕ → ℕ → Type 0
Same v w at size = (k : ℕ) → at ≤ k → k < at + size → get_or v k 0 ≡ get_or w k 0

pub narrower : (v w : List ℕ) (at size at' size' : ℕ) → Same v w at size → at ≤ at' → at' + size' ≤ at + size → Same v w at' size'
narrower v w at size at' size' h lo hi k below above = h k (omega arith) (omega arith)

mutual
  pub kept_same : (e : Path) (at : ℕ) (v w : List ℕ) (t : List Event) → Kept e at w t → Same v w at (slots e) → Kept e at v t
  kept_same (name o) at v w t h same = tt
  kept_same (list ms) at v w t h same = each_same ms at v w t h same
  kept_same (sequence ms) at v w t h same = turns_same ms at v w t h same
  kept_same (bound n e) at v w t h same = (same at (omega arith) (omega arith) ∙ h.0, kept_same e (at + 1) v w t h.1 (narrower v w at (1 + slots e) (at + 1) (slots e) same (omega arith) (omega arith)))
  kept_same (burst e) at v w t h same = (same at (omega arith) (omega arith) ∙ h.0, kept_same e (at + 1) v w t h.1 (narrower v w at (1 + slots e) (at + 1) (slots e) same (omega arith) (omega arith)))

  pub each_same : (ms : Paths) (at : ℕ) (v w : List ℕ) (t : List Event) → KeptEach ms at w t → Same v w at (slots_of ms) → KeptEach ms at v t
  each_same (two a b) at v w t h same = (
    kept_same a (at + 1) v w t h.0 (narrower v w at ((1 + slots a) + slots b) (at + 1) (slots a) same (omega arith) (omega arith)),
    kept_same b ((at + 1) + slots a) v w t h.1 (narrower v w at ((1 + slots a) + slots b) ((at + 1) + slots a) (slots b) same (omega arith) (omega arith)),
  )
  each_same (more a rest) at v w t h same = (
    kept_same a (at + 1) v w t h.0 (narrower v w at ((1 + slots a) + slots_of rest) (at + 1) (slots a) same (omega arith) (omega arith)),
    each_same rest ((at + 1) + slots a) v w t h.1 (narrower v w at ((1 + slots a) + slots_of rest) ((at + 1) + slots a) (slots_of rest) same (omega arith) (omega arith)),
  )

  pub turns_same : (ms : Paths) (at : ℕ) (v w : List ℕ) (t : List Event) → KeptTurns ms at w t → Same v w at (slots_of ms) → KeptTurns ms at v t
  turns_same (two a b) at v w t h same = (
    same at (omega arith) (omega arith) ∙ h.0,
    kept_same a (at + 1) v w t h.1 (narrower v w at ((1 + slots a) + slots b) (at + 1) (slots a) same (omega arith) (omega arith)),
    kept_same b ((at + 1) + slots a) v w t h.2 (narrower v w at ((1 + slots a) + slots b) ((at + 1) + slots a) (slots b) same (omega arith) (omega arith)),
  )
  turns_same (more a rest) at v w t h same = (
    same at (omega arith) (omega arith) ∙ h.0,
    kept_same a (at + 1) v w t h.1 (narrower v w at ((1 + slots a) + slots_of rest) (at + 1) (slots a) same (omega arith) (omega arith)),
    turns_same rest ((at + 1) + slots a) v w t h.2 (narrower v w at ((1 + slots a) + slots_of rest) ((at + 1) + slots a) (slots_of rest) same (omega arith) (omega arith)),
  )
