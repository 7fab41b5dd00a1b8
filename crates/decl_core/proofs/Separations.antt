-- What a walk finds is the first node that separates, and a test of one node tells whether it separates.
use Rattle.std.proofs.Common.{◌≡◌, ℕ, zero, suc, ◌-◌, ◌≤◌, inl, inr, Bool, true, false, Option, Some, None, refl, sym, subst, arith}
use Rattle.std.specs.Prelude.{◌==◌, nat_lt, ◌&&◌, ◌||◌, if◌then◌else◌}
use Rattle.std.specs.Bool.{Decides}
use Rattle.std.proofs.lemmas.Bool.{both_ways, cases_lt, cases_eq, lt-ltb, le-ltb, eq-eqb, ne_eqb}
use Rattle.std.proofs.lemmas.Bool.Decides.{Decides-eqb, Decides-and, Decides-or}
use Rattle.path_tree.specs.Path.{Path, Paths, name, list, sequence, bound, burst, two, more}
use Rattle.path_tree.specs.Names.{names, some_names}
use Rattle.path_tree.specs.Limits.{node_count}
use Rattle.decl_core.specs.Separates.{itself, in_bound, StandApart, MeetOpenly, SomeMeetOpenly, Separates}
use Rattle.decl_core.specs.Search.{stand_apart, meets, some_meets, further, first_of, separation, separation_among, separates_at, one_separates_at}
use Rattle.decl_core.proofs.NodeNumbers.{SeparatesAmong, AreInner, AreBeside, no_name, in_lists, in_sequences, in_bursts, bound_inwards, in_two, in_more}

itself_decides : (b : Bool) → Decides b (b ≡ true)
itself_decides b = (λ h. h, λ h. h)

apart_decides : (f g : ℕ → Bool) (a b : ℕ) → Decides (stand_apart f g a b) (StandApart f g a b)
apart_decides f g a b =
    Decides-or (f a && g b) (f b && g a)
    (Decides-and (f a) (g b) (itself_decides (f a)) (itself_decides (g b)))
    (Decides-and (f b) (g a) (itself_decides (f b)) (itself_decides (g a)))

mutual
  pub meets_decides : (e : Path) (a b : ℕ) → Decides (meets e a b) (MeetOpenly e a b)
  meets_decides (name op) a b = Decides-and (a == op) (b == op) (Decides-eqb a op) (Decides-eqb b op)
  meets_decides (list ms) a b = some_meets_decides ms a b
  meets_decides (sequence ms) a b = some_meets_decides ms a b
  meets_decides (bound n e) a b = meets_decides e a b
  meets_decides (burst e) a b = (λ h. absurd cc, λ h. absurd h)

  some_meets_decides : (ms : Paths) (a b : ℕ) → Decides (some_meets ms a b) (SomeMeetOpenly ms a b)
  some_meets_decides (two x y) a b =
      Decides-or (meets x a b) (meets y a b || stand_apart (names x) (names y) a b) (meets_decides x a b)
      (Decides-or (meets y a b) (stand_apart (names x) (names y) a b) (meets_decides y a b) (apart_decides (names x) (names y) a b))
  some_meets_decides (more x rest) a b =
      Decides-or (meets x a b) (some_meets rest a b || stand_apart (names x) (some_names rest) a b) (meets_decides x a b)
      (Decides-or (some_meets rest a b) (stand_apart (names x) (some_names rest) a b) (some_meets_decides rest a b) (apart_decides (names x) (some_names rest) a b))

-- the first of the numbers of a kind, or none
abbrev pub IsFirst : (ℕ → Type 0) → Option ℕ → Type 0
IsFirst P None = (k : ℕ) → P k → ⊥
IsFirst P (Some k) = P k × ((j : ℕ) → P j → k ≤ j)

first_inner : (P Q : ℕ → Type 0) (o : Option ℕ) → AreInner P Q → IsFirst P o → IsFirst Q (further 1 o)
first_inner P Q None inner first = λ j h. let k = inner.inwards j h in first k.0 k.2
first_inner P Q (Some i) inner first = (subst Q (omega arith) (inner.outwards i first.0), λ j h. let k = inner.inwards j h in let least = first.1 k.0 k.2 in omega arith)

first_beside : (n : ℕ) (P Q R : ℕ → Type 0) (o p : Option ℕ) → AreBeside n P Q R → IsFirst P o → IsFirst Q p → IsFirst R (first_of o (further n p))
first_beside n P Q R (Some i) p beside here there = (
  beside.here i here.0,
  λ j h. elim (beside.either j h) [
    | inl left ↦ here.1 j left
    | inr right ↦ let within = beside.below i here.0 in omega arith
  ],
)
first_beside n P Q R None (Some i) beside here there = (
  beside.there i there.0,
  λ j h. elim (beside.either j h) [
    | inl left ↦ absurd (here j left)
    | inr right ↦ let least = there.1 right.0 right.2 in omega arith
  ],
)
first_beside n P Q R None None beside here there =
    λ j h. elim (beside.either j h) [ inl left ↦ here j left | inr right ↦ there right.0 right.2 ]

first_if : (c : Bool) (P : ℕ → Type 0) (o p : Option ℕ) → (c ≡ true → IsFirst P o) → (c ≡ false → IsFirst P p) → IsFirst P (if c then o else p)
first_if true P o p one other = one refl
first_if false P o p one other = other refl

bound_here : (n : ℕ) (e : Path) (a b : ℕ) → n ≡ 1 → MeetOpenly e a b → IsFirst (λ k. Separates (bound n e) k a b) (Some 0)
bound_here n e a b one meet = subst (λ m. IsFirst (λ k. Separates (bound m e) k a b) (Some 0)) (sym one) ((e, itself, meet), λ j h. omega arith)

bound_inner : (n : ℕ) (e : Path) (a b : ℕ) → ((n ≡ 1) × MeetOpenly e a b → ⊥) → AreInner (λ k. Separates e k a b) (λ k. Separates (bound n e) k a b)
bound_inner n e a b unless = record {
  outwards = λ k h. (h.0, in_bound h.1, h.2);
  inwards = λ j h. elim (bound_inwards n e a b j h) [ inl here ↦ absurd (unless (here.1, here.2)) | inr inner ↦ inner ];
}

one_decides : (n : ℕ) (e : Path) (a b : ℕ) → Decides ((n == 1) && meets e a b) ((n ≡ 1) × MeetOpenly e a b)
one_decides n e a b = Decides-and (n == 1) (meets e a b) (Decides-eqb n 1) (meets_decides e a b)

mutual
  pub separation_first : (e : Path) (a b : ℕ) → IsFirst (λ k. Separates e k a b) (separation e a b)
  separation_first (name op) a b = λ k h. no_name op k a b h
  separation_first (list ms) a b =
      first_inner (λ k. SeparatesAmong ms k a b) (λ k. Separates (list ms) k a b) (separation_among ms a b) (in_lists ms a b) (among_first ms a b)
  separation_first (sequence ms) a b =
      first_inner (λ k. SeparatesAmong ms k a b) (λ k. Separates (sequence ms) k a b) (separation_among ms a b) (in_sequences ms a b) (among_first ms a b)
  separation_first (bound n e) a b =
      let d = one_decides n e a b in
      first_if ((n == 1) && meets e a b) (λ k. Separates (bound n e) k a b) (Some 0) (further 1 (separation e a b))
      (λ holds. let h = d.0 holds in bound_here n e a b h.0 h.1)
      (λ fails. first_inner (λ k. Separates e k a b) (λ k. Separates (bound n e) k a b) (separation e a b)
      (bound_inner n e a b (λ h. both_ways ((n == 1) && meets e a b) fails (d.1 h))) (separation_first e a b))
  separation_first (burst e) a b =
      first_inner (λ k. Separates e k a b) (λ k. Separates (burst e) k a b) (separation e a b) (in_bursts e a b) (separation_first e a b)

  among_first : (ms : Paths) (a b : ℕ) → IsFirst (λ k. SeparatesAmong ms k a b) (separation_among ms a b)
  among_first (two x y) a b =
      first_beside (node_count x) (λ k. Separates x k a b) (λ k. Separates y k a b) (λ k. SeparatesAmong (two x y) k a b)
      (separation x a b) (separation y a b) (in_two x y a b) (separation_first x a b) (separation_first y a b)
  among_first (more x rest) a b =
      first_beside (node_count x) (λ k. Separates x k a b) (λ k. SeparatesAmong rest k a b) (λ k. SeparatesAmong (more x rest) k a b)
      (separation x a b) (separation_among rest a b) (in_more x rest a b) (separation_first x a b) (among_first rest a b)

inner_decides : (t : ℕ → Bool) (P Q : ℕ → Type 0) (k : ℕ) → AreInner P Q → ((j : ℕ) → Decides (t j) (P j)) → Decides (nat_lt 0 k && t (k - 1)) (Q k)
inner_decides t P Q k inner decides = elim (cases_lt 0 k) [
  | inl above ↦ subst (λ c. Decides (c && t (k - 1)) (Q k)) (sym (lt-ltb 0 k above)) (
    λ h. subst Q (omega arith) (inner.outwards (k - 1) ((decides (k - 1)).0 h)),
    λ q. let j = inner.inwards k q in (decides (k - 1)).1 (subst P (omega arith) j.2),
  )
  | inr first ↦ subst (λ c. Decides (c && t (k - 1)) (Q k)) (sym (le-ltb 0 k first))
      (λ h. absurd cc, λ q. let j = inner.inwards k q in absurd (omega arith))
]

beside_decides : (n : ℕ) (t u : ℕ → Bool) (P Q R : ℕ → Type 0) (k : ℕ) → AreBeside n P Q R → ((j : ℕ) → Decides (t j) (P j)) → ((j : ℕ) → Decides (u j) (Q j)) →
    Decides (if nat_lt k n then t k else u (k - n)) (R k)
beside_decides n t u P Q R k beside here there = elim (cases_lt k n) [
  | inl less ↦ subst (λ c. Decides (if c then t k else u (k - n)) (R k)) (sym (lt-ltb k n less))
      (λ h. beside.here k ((here k).0 h), λ r. elim (beside.either k r) [ inl left ↦ (here k).1 left | inr right ↦ absurd (omega arith) ])
  | inr beyond ↦ subst (λ c. Decides (if c then t k else u (k - n)) (R k)) (sym (le-ltb k n beyond)) (
    λ h. subst R (omega arith) (beside.there (k - n) ((there (k - n)).0 h)),
    λ r. elim (beside.either k r) [
      | inl left ↦ let within = beside.below k left in absurd (omega arith)
      | inr right ↦ (there (k - n)).1 (subst Q (omega arith) right.2)
    ],
  )
]

bound_decides : (n : ℕ) (e : Path) (a b k : ℕ) → ((j : ℕ) → Decides (separates_at e j a b) (Separates e j a b)) →
    Decides (if k == 0 then (n == 1) && meets e a b else separates_at e (k - 1) a b) (Separates (bound n e) k a b)
bound_decides n e a b k decides = elim (cases_eq k 0) [
  | inl first ↦
      let d = one_decides n e a b in
      subst (λ c. Decides (if c then (n == 1) && meets e a b else separates_at e (k - 1) a b) (Separates (bound n e) k a b)) (sym (eq-eqb k 0 first)) (
        λ h. let is = d.0 h in subst (λ j. Separates (bound n e) j a b) (sym first) (subst (λ m. Separates (bound m e) zero a b) (sym is.0) (e, itself, is.1)),
        λ h. elim (bound_inwards n e a b k h) [ inl here ↦ d.1 (here.1, here.2) | inr inner ↦ absurd (omega arith) ],
      )
  | inr above ↦
      let d = decides (k - 1) in
      let next : suc (k - 1) ≡ k = omega arith in
      subst (λ c. Decides (if c then (n == 1) && meets e a b else separates_at e (k - 1) a b) (Separates (bound n e) k a b)) (sym (ne_eqb k 0 above)) (
        λ h. let inner = d.0 h in subst (λ j. Separates (bound n e) j a b) next (inner.0, in_bound inner.1, inner.2),
        λ h. elim (bound_inwards n e a b k h) [ inl here ↦ absurd (above here.0) | inr inner ↦ d.1 (subst (λ j. Separates e j a b) (omega arith) inner.2) ],
      )
]

mutual
  pub separates_decides : (e : Path) (k a b : ℕ) → Decides (separates_at e k a b) (Separates e k a b)
  separates_decides (name op) k a b = (λ h. absurd cc, λ h. absurd (no_name op k a b h))
  separates_decides (list ms) k a b =
      inner_decides (λ j. one_separates_at ms j a b) (λ j. SeparatesAmong ms j a b) (λ j. Separates (list ms) j a b) k (in_lists ms a b) (λ j. one_separates_decides ms j a b)
  separates_decides (sequence ms) k a b =
      inner_decides (λ j. one_separates_at ms j a b) (λ j. SeparatesAmong ms j a b) (λ j. Separates (sequence ms) j a b) k (in_sequences ms a b) (λ j. one_separates_decides ms j a b)
  separates_decides (bound n e) k a b = bound_decides n e a b k (λ j. separates_decides e j a b)
  separates_decides (burst e) k a b =
      inner_decides (λ j. separates_at e j a b) (λ j. Separates e j a b) (λ j. Separates (burst e) j a b) k (in_bursts e a b) (λ j. separates_decides e j a b)

  one_separates_decides : (ms : Paths) (k a b : ℕ) → Decides (one_separates_at ms k a b) (SeparatesAmong ms k a b)
  one_separates_decides (two x y) k a b =
      beside_decides (node_count x) (λ j. separates_at x j a b) (λ j. separates_at y j a b) (λ j. Separates x j a b) (λ j. Separates y j a b)
      (λ j. SeparatesAmong (two x y) j a b) k (in_two x y a b) (λ j. separates_decides x j a b) (λ j. separates_decides y j a b)
  one_separates_decides (more x rest) k a b =
      beside_decides (node_count x) (λ j. separates_at x j a b) (λ j. one_separates_at rest j a b) (λ j. Separates x j a b) (λ j. SeparatesAmong rest j a b)
      (λ j. SeparatesAmong (more x rest) j a b) k (in_more x rest a b) (λ j. separates_decides x j a b) (λ j. one_separates_decides rest j a b)
