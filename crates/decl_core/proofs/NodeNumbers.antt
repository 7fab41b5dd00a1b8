-- Which nodes separate in a tree, from those that separate in what is in it.
use Rattle.std.proofs.Common.{◌≡◌, ℕ, zero, suc, ◌+◌, ◌<◌, ◌⊎◌, inl, inr, refl, arith}
use Rattle.path_tree.specs.Path.{Path, Paths, name, list, sequence, bound, burst, two, more}
use Rattle.path_tree.specs.Limits.{node_count, count_of_all}
use Rattle.decl_core.specs.Separates.{IsNodeAt, itself, in_list, in_sequence, in_bound, in_burst, IsNodeAmong, in_last_but_one, in_last, in_first, in_rest, MeetOpenly, Separates}

some_node : (e : Path) → 0 < node_count e
some_node (name op) = omega arith
some_node (list ms) = omega arith
some_node (sequence ms) = omega arith
some_node (bound n e) = omega arith
some_node (burst e) = omega arith

-- a node's number is below the count of nodes
mutual
  at_below : {e : Path} {k : ℕ} {node : Path} → IsNodeAt e k node → k < node_count e
  at_below (itself {e = e}) = some_node e
  at_below (in_list r) = omega (arith, among_below r)
  at_below (in_sequence r) = omega (arith, among_below r)
  at_below (in_bound r) = omega (arith, at_below r)
  at_below (in_burst r) = omega (arith, at_below r)

  among_below : {ms : Paths} {k : ℕ} {node : Path} → IsNodeAmong ms k node → k < count_of_all ms
  among_below (in_last_but_one r) = omega (arith, at_below r)
  among_below (in_last r) = omega (arith, at_below r)
  among_below (in_first r) = omega (arith, at_below r)
  among_below (in_rest r) = omega (arith, among_below r)

-- the same as `Separates`, of some members
abbrev pub SeparatesAmong : Paths → ℕ → ℕ → ℕ → Type 0
SeparatesAmong ms k a b = (content : Path) × IsNodeAmong ms k (bound 1 content) × MeetOpenly content a b

-- the numbers of one kind are those of another, one further on
pub record AreInner (P Q : ℕ → Type 0) : Type 0 where
  pub outwards : (k : ℕ) → P k → Q (suc k)
  pub inwards : (j : ℕ) → Q j → (k : ℕ) × (j ≡ suc k) × P k

-- the numbers of one kind are those of two others: of the first, below n, and of the second, n further on
pub record AreBeside (n : ℕ) (P Q R : ℕ → Type 0) : Type 0 where
  pub below : (k : ℕ) → P k → k < n
  pub here : (k : ℕ) → P k → R k
  pub there : (k : ℕ) → Q k → R (n + k)
  pub either : (j : ℕ) → R j → P j ⊎ ((k : ℕ) × (j ≡ n + k) × Q k)

no_bound : {op k : ℕ} {content : Path} → IsNodeAt (name op) k (bound 1 content) → ⊥
no_bound r = elim r [ ]

pub no_name : (op k a b : ℕ) → Separates (name op) k a b → ⊥
no_name op k a b h = no_bound h.1

list_inwards : (ms : Paths) (a b j : ℕ) → Separates (list ms) j a b → (k : ℕ) × (j ≡ suc k) × SeparatesAmong ms k a b
list_inwards ms a b _ (content, in_list {k = k} r, meet) = (k, refl, (content, r, meet))

sequence_inwards : (ms : Paths) (a b j : ℕ) → Separates (sequence ms) j a b → (k : ℕ) × (j ≡ suc k) × SeparatesAmong ms k a b
sequence_inwards ms a b _ (content, in_sequence {k = k} r, meet) = (k, refl, (content, r, meet))

burst_inwards : (e : Path) (a b j : ℕ) → Separates (burst e) j a b → (k : ℕ) × (j ≡ suc k) × Separates e k a b
burst_inwards e a b _ (content, in_burst {k = k} r, meet) = (k, refl, (content, r, meet))

pub in_lists : (ms : Paths) (a b : ℕ) → AreInner (λ k. SeparatesAmong ms k a b) (λ k. Separates (list ms) k a b)
in_lists ms a b = record { outwards = λ k h. (h.0, in_list h.1, h.2); inwards = list_inwards ms a b }

pub in_sequences : (ms : Paths) (a b : ℕ) → AreInner (λ k. SeparatesAmong ms k a b) (λ k. Separates (sequence ms) k a b)
in_sequences ms a b = record { outwards = λ k h. (h.0, in_sequence h.1, h.2); inwards = sequence_inwards ms a b }

pub in_bursts : (e : Path) (a b : ℕ) → AreInner (λ k. Separates e k a b) (λ k. Separates (burst e) k a b)
in_bursts e a b = record { outwards = λ k h. (h.0, in_burst h.1, h.2); inwards = burst_inwards e a b }

-- a bound separates where it is a bound of 1 and the names meet openly in it; else a node in it does
pub bound_inwards : (n : ℕ) (e : Path) (a b j : ℕ) → Separates (bound n e) j a b →
    ((j ≡ zero) × (n ≡ 1) × MeetOpenly e a b) ⊎ ((k : ℕ) × (j ≡ suc k) × Separates e k a b)
bound_inwards n e a b _ (content, itself, meet) = inl (refl, refl, meet)
bound_inwards n e a b _ (content, in_bound {k = k} r, meet) = inr (k, refl, (content, r, meet))

either_of_two : (x y : Path) (a b j : ℕ) → SeparatesAmong (two x y) j a b → Separates x j a b ⊎ ((k : ℕ) × (j ≡ node_count x + k) × Separates y k a b)
either_of_two x y a b _ (content, in_last_but_one r, meet) = inl (content, r, meet)
either_of_two x y a b _ (content, in_last {k = k} r, meet) = inr (k, refl, (content, r, meet))

either_of_more : (x : Path) (rest : Paths) (a b j : ℕ) → SeparatesAmong (more x rest) j a b →
    Separates x j a b ⊎ ((k : ℕ) × (j ≡ node_count x + k) × SeparatesAmong rest k a b)
either_of_more x rest a b _ (content, in_first r, meet) = inl (content, r, meet)
either_of_more x rest a b _ (content, in_rest {k = k} r, meet) = inr (k, refl, (content, r, meet))

pub in_two : (x y : Path) (a b : ℕ) → AreBeside (node_count x) (λ k. Separates x k a b) (λ k. Separates y k a b) (λ k. SeparatesAmong (two x y) k a b)
in_two x y a b = record {
  below = λ k h. at_below h.1;
  here = λ k h. (h.0, in_last_but_one h.1, h.2);
  there = λ k h. (h.0, in_last h.1, h.2);
  either = either_of_two x y a b;
}

pub in_more : (x : Path) (rest : Paths) (a b : ℕ) →
    AreBeside (node_count x) (λ k. Separates x k a b) (λ k. SeparatesAmong rest k a b) (λ k. SeparatesAmong (more x rest) k a b)
in_more x rest a b = record {
  below = λ k h. at_below h.1;
  here = λ k h. (h.0, in_first h.1, h.2);
  there = λ k h. (h.0, in_rest h.1, h.2);
  either = either_of_more x rest a b;
}
