-- Two names meet openly in a tree where both stand in it and no burst in it holds both.
use Rattle.std.proofs.Common.{◌≡◌, ℕ, zero, suc, ◌+◌, ◌⊎◌, inl, inr, Bool, true, false, refl}
use Rattle.std.specs.Prelude.{◌||◌, ◌↔◌}
use Rattle.std.proofs.lemmas.Bool.{eqb-true, eq-eqb}
use Rattle.path_tree.specs.Path.{Path, Paths, name, list, sequence, bound, burst, two, more}
use Rattle.path_tree.specs.Names.{names, some_names, NamesOnce, EachOnce}
use Rattle.path_tree.specs.Limits.{node_count}
use Rattle.path_tree.proofs.Once.{or_left, or_right}
use Rattle.decl_core.specs.Separates.{IsNodeAt, itself, in_list, in_sequence, in_bound, in_burst, IsNodeAmong, in_last_but_one, in_last, in_first, in_rest, StandApart, MeetOpenly, SomeMeetOpenly}
use Rattle.decl_core.specs.Laws.{NoBurstHolds}

pub or_true : (a b : Bool) → (a || b) ≡ true → (a ≡ true) ⊎ (b ≡ true)
or_true true b h = inl refl
or_true false b h = inr h

-- what a node of a tree names, the tree names
mutual
  pub node_names : {e : Path} {k : ℕ} {node : Path} (op : ℕ) → IsNodeAt e k node → names node op ≡ true → names e op ≡ true
  node_names op itself h = h
  node_names op (in_list r) h = among_names op r h
  node_names op (in_sequence r) h = among_names op r h
  node_names op (in_bound r) h = node_names op r h
  node_names op (in_burst r) h = node_names op r h

  pub among_names : {ms : Paths} {k : ℕ} {node : Path} (op : ℕ) → IsNodeAmong ms k node → names node op ≡ true → some_names ms op ≡ true
  among_names op (in_last_but_one {a = x} {b = y} r) h = or_left (names x op) (names y op) (node_names op r h)
  among_names op (in_last {a = x} {b = y} r) h = or_right (names x op) (names y op) (node_names op r h)
  among_names op (in_first {a = x} {rest = rest} r) h = or_left (names x op) (some_names rest op) (node_names op r h)
  among_names op (in_rest {a = x} {rest = rest} r) h = or_right (names x op) (some_names rest op) (among_names op r h)

-- names that stand apart stand in the whole
apart_named : (f g : ℕ → Bool) (a b : ℕ) → StandApart f g a b → ((f a || g a) ≡ true) × ((f b || g b) ≡ true)
apart_named f g a b h = elim h [
  | inl one ↦ (or_left (f a) (g a) one.0, or_right (f b) (g b) one.1)
  | inr other ↦ (or_right (f a) (g a) other.1, or_left (f b) (g b) other.0)
]

-- names that meet openly stand in the tree
mutual
  pub open_named : (e : Path) (a b : ℕ) → MeetOpenly e a b → (names e a ≡ true) × (names e b ≡ true)
  open_named (name op) a b h = (eq-eqb a op h.0, eq-eqb b op h.1)
  open_named (list ms) a b h = some_open_named ms a b h
  open_named (sequence ms) a b h = some_open_named ms a b h
  open_named (bound n e) a b h = open_named e a b h
  open_named (burst e) a b h = absurd h

  pub some_open_named : (ms : Paths) (a b : ℕ) → SomeMeetOpenly ms a b → (some_names ms a ≡ true) × (some_names ms b ≡ true)
  some_open_named (two x y) a b (inl here) =
      let h = open_named x a b here in (or_left (names x a) (names y a) h.0, or_left (names x b) (names y b) h.1)
  some_open_named (two x y) a b (inr (inl there)) =
      let h = open_named y a b there in (or_right (names x a) (names y a) h.0, or_right (names x b) (names y b) h.1)
  some_open_named (two x y) a b (inr (inr apart)) = apart_named (names x) (names y) a b apart
  some_open_named (more x rest) a b (inl here) =
      let h = open_named x a b here in (or_left (names x a) (some_names rest a) h.0, or_left (names x b) (some_names rest b) h.1)
  some_open_named (more x rest) a b (inr (inl there)) =
      let h = some_open_named rest a b there in (or_right (names x a) (some_names rest a) h.0, or_right (names x b) (some_names rest b) h.1)
  some_open_named (more x rest) a b (inr (inr apart)) = apart_named (names x) (some_names rest) a b apart

-- where no name stands on two sides, two names on one side do not stand apart
not_apart : (f g : ℕ → Bool) (a b : ℕ) → ((op : ℕ) → f op ≡ true → g op ≡ false) →
    ((f a ≡ true) × (f b ≡ true)) ⊎ ((g a ≡ true) × (g b ≡ true)) → StandApart f g a b → ⊥
not_apart f g a b once (inl h) (inl one) = let no = once b h.1 in cc
not_apart f g a b once (inl h) (inr other) = let no = once a h.0 in cc
not_apart f g a b once (inr h) (inl one) = let no = once a one.0 in cc
not_apart f g a b once (inr h) (inr other) = let no = once b other.0 in cc

-- where they meet openly, no burst holds both
mutual
  pub open_free : {e : Path} {k : ℕ} {content : Path} (a b : ℕ) → IsNodeAt e k (burst content) → NamesOnce e → MeetOpenly e a b →
      names content a ≡ true → names content b ≡ true → ⊥
  open_free a b itself once meet h k = meet
  open_free a b (in_list r) once meet h k = some_open_free a b r once meet h k
  open_free a b (in_sequence r) once meet h k = some_open_free a b r once meet h k
  open_free a b (in_bound r) once meet h k = open_free a b r once meet h k
  open_free a b (in_burst r) once meet h k = meet

  pub some_open_free : {ms : Paths} {k : ℕ} {content : Path} (a b : ℕ) → IsNodeAmong ms k (burst content) → EachOnce ms → SomeMeetOpenly ms a b →
      names content a ≡ true → names content b ≡ true → ⊥
  some_open_free a b (in_last_but_one {a = x} {b = y} r) once (inl here) h k = open_free a b r once.0 here h k
  some_open_free a b (in_last_but_one {a = x} {b = y} r) once (inr (inl there)) h k =
      let no = once.2 a (node_names a r h) in let yes = (open_named y a b there).0 in cc
  some_open_free a b (in_last_but_one {a = x} {b = y} r) once (inr (inr apart)) h k =
      not_apart (names x) (names y) a b once.2 (inl (node_names a r h, node_names b r k)) apart
  some_open_free a b (in_last {a = x} {b = y} r) once (inl here) h k =
      let no = once.2 a (open_named x a b here).0 in let yes = node_names a r h in cc
  some_open_free a b (in_last {a = x} {b = y} r) once (inr (inl there)) h k = open_free a b r once.1 there h k
  some_open_free a b (in_last {a = x} {b = y} r) once (inr (inr apart)) h k =
      not_apart (names x) (names y) a b once.2 (inr (node_names a r h, node_names b r k)) apart
  some_open_free a b (in_first {a = x} {rest = rest} r) once (inl here) h k = open_free a b r once.0 here h k
  some_open_free a b (in_first {a = x} {rest = rest} r) once (inr (inl there)) h k =
      let no = once.2 a (node_names a r h) in let yes = (some_open_named rest a b there).0 in cc
  some_open_free a b (in_first {a = x} {rest = rest} r) once (inr (inr apart)) h k =
      not_apart (names x) (some_names rest) a b once.2 (inl (node_names a r h, node_names b r k)) apart
  some_open_free a b (in_rest {a = x} {rest = rest} r) once (inl here) h k =
      let no = once.2 a (open_named x a b here).0 in let yes = among_names a r h in cc
  some_open_free a b (in_rest {a = x} {rest = rest} r) once (inr (inl there)) h k = some_open_free a b r once.1 there h k
  some_open_free a b (in_rest {a = x} {rest = rest} r) once (inr (inr apart)) h k =
      not_apart (names x) (some_names rest) a b once.2 (inr (among_names a r h, among_names b r k)) apart

-- two names on two sides: both on one, or apart
sides : (f g : ℕ → Bool) (a b : ℕ) → (f a || g a) ≡ true → (f b || g b) ≡ true →
    ((f a ≡ true) × (f b ≡ true)) ⊎ (((g a ≡ true) × (g b ≡ true)) ⊎ StandApart f g a b)
sides f g a b h k = elim (or_true (f a) (g a) h) [
  | inl left ↦ elim (or_true (f b) (g b) k) [ inl left_too ↦ inl (left, left_too) | inr right ↦ inr (inr (inl (left, right))) ]
  | inr right ↦ elim (or_true (f b) (g b) k) [ inl left ↦ inr (inr (inr (left, right))) | inr right_too ↦ inr (inl (right, right_too)) ]
]

-- where both stand and no burst holds both, they meet openly
mutual
  pub free_open : (e : Path) (a b : ℕ) → names e a ≡ true → names e b ≡ true → NoBurstHolds e a b → MeetOpenly e a b
  free_open (name op) a b h k free = (eqb-true a op h, eqb-true b op k)
  free_open (list ms) a b h k free = some_free_open ms a b h k (λ i content r. free (suc i) content (in_list r))
  free_open (sequence ms) a b h k free = some_free_open ms a b h k (λ i content r. free (suc i) content (in_sequence r))
  free_open (bound n e) a b h k free = free_open e a b h k (λ i content r. free (suc i) content (in_bound r))
  free_open (burst e) a b h k free = free zero e itself h k

  pub some_free_open : (ms : Paths) (a b : ℕ) → some_names ms a ≡ true → some_names ms b ≡ true →
      ((k : ℕ) (content : Path) → IsNodeAmong ms k (burst content) → names content a ≡ true → names content b ≡ true → ⊥) → SomeMeetOpenly ms a b
  some_free_open (two x y) a b h k free = elim (sides (names x) (names y) a b h k) [
    | inl here ↦ inl (free_open x a b here.0 here.1 (λ i content r. free i content (in_last_but_one r)))
    | inr other ↦ elim other [
      | inl there ↦ inr (inl (free_open y a b there.0 there.1 (λ i content r. free (node_count x + i) content (in_last r))))
      | inr apart ↦ inr (inr apart)
    ]
  ]
  some_free_open (more x rest) a b h k free = elim (sides (names x) (some_names rest) a b h k) [
    | inl here ↦ inl (free_open x a b here.0 here.1 (λ i content r. free i content (in_first r)))
    | inr other ↦ elim other [
      | inl there ↦ inr (inl (some_free_open rest a b there.0 there.1 (λ i content r. free (node_count x + i) content (in_rest r))))
      | inr apart ↦ inr (inr apart)
    ]
  ]

pub openly_means : (e : Path) (a b : ℕ) → NamesOnce e → MeetOpenly e a b ↔ ((names e a ≡ true) × (names e b ≡ true) × NoBurstHolds e a b)
openly_means e a b once = (λ meet. ((open_named e a b meet).0, (open_named e a b meet).1, λ k content r. open_free a b r once meet), λ h. free_open e a b h.0 h.1 h.2)
