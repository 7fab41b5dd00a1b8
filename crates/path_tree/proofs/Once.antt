-- No name is seen twice exactly where each name stands once.
use Rattle.std.proofs.Common.{◌≡◌, ℕ, List, [], ◌∷◌, ◌++◌, Bool, true, false, eqb, eq-eqb, refl, sym, ap, subst, ◌∙◌, inl, inr, ◌⊎◌}
use Rattle.std.specs.Prelude.{◌||◌}
use Rattle.std.proofs.lemmas.Bool.{eqb-true}
use Rattle.path_tree.specs.Path.{Path, Paths, name, list, sequence, bound, burst, two, more}
use Rattle.path_tree.specs.Reading.{was_seen}
use Rattle.path_tree.specs.Names.{names, some_names, NamesOnce, EachOnce}
use Rattle.path_tree.proofs.Seen.{seen_after, seen_after_all, IsNew, AllNew}

or_assoc : (a b c : Bool) → ((a || b) || c) ≡ (a || (b || c))
or_assoc true b c = refl
or_assoc false b c = refl

or_none : (b : Bool) → (b || false) ≡ b
or_none true = refl
or_none false = refl

other : (b : Bool) (k o : ℕ) → eqb o k ≡ b → eqb k o ≡ false → eqb o k ≡ false
other true k o is e = absurd (let t : true ≡ false = sym (eq-eqb k o (sym (eqb-true o k is))) ∙ e in cc)
other false k o is e = is

same_turned : (b : Bool) (k o : ℕ) → eqb k o ≡ b → eqb o k ≡ b
same_turned true k o e = eq-eqb o k (sym (eqb-true k o e))
same_turned false k o e = other (eqb o k) k o refl e

seen_with : (seen : List ℕ) (o k : ℕ) → was_seen (seen ++ o ∷ []) k ≡ (was_seen seen k || eqb k o)
seen_with [] o k = or_none (eqb o k) ∙ same_turned (eqb k o) k o refl
seen_with (x ∷ seen) o k = ap (λ b. eqb x k || b) (seen_with seen o k) ∙ sym (or_assoc (eqb x k) (was_seen seen k) (eqb k o))

or_true : (a b : Bool) → (a || b) ≡ true → (a ≡ true) ⊎ (b ≡ true)
or_true true b h = inl refl
or_true false b h = inr h

pub or_left : (a b : Bool) → a ≡ true → (a || b) ≡ true
or_left true b h = refl
or_left false b h = absurd cc

pub or_right : (a b : Bool) → b ≡ true → (a || b) ≡ true
or_right true b h = refl
or_right false b h = h

none_of : (a b : Bool) → (a || b) ≡ false → (a ≡ false) × (b ≡ false)
none_of true b h = absurd cc
none_of false b h = (refl, h)

both_false : (a b : Bool) → a ≡ false → b ≡ false → (a || b) ≡ false
both_false true b h k = absurd cc
both_false false b h k = k

turned : (a b : Bool) → (b ≡ true → a ≡ false) → a ≡ true → b ≡ false
turned a true h k = absurd (let e : true ≡ false = sym k ∙ h refl in cc)
turned a false h k = refl

mutual
  pub seen_names : (e : Path) (seen : List ℕ) (k : ℕ) → was_seen (seen_after e seen) k ≡ (was_seen seen k || names e k)
  seen_names (name o) seen k = seen_with seen o k
  seen_names (list ms) seen k = all_seen_names ms seen k
  seen_names (sequence ms) seen k = all_seen_names ms seen k
  seen_names (bound n e) seen k = seen_names e seen k
  seen_names (burst e) seen k = seen_names e seen k

  pub all_seen_names : (ms : Paths) (seen : List ℕ) (k : ℕ) → was_seen (seen_after_all ms seen) k ≡ (was_seen seen k || some_names ms k)
  all_seen_names (two a b) seen k = seen_names b (seen_after a seen) k ∙ ap (λ s. s || names b k) (seen_names a seen k) ∙ or_assoc (was_seen seen k) (names a k) (names b k)
  all_seen_names (more a rest) seen k = all_seen_names rest (seen_after a seen) k ∙ ap (λ s. s || some_names rest k) (seen_names a seen k) ∙ or_assoc (was_seen seen k) (names a k) (some_names rest k)

abbrev Unseen : (ℕ → Bool) → List ℕ → Type 0
Unseen named seen = (k : ℕ) → named k ≡ true → was_seen seen k ≡ false

joined : (a b : ℕ → Bool) (seen after : List ℕ) → ((k : ℕ) → was_seen after k ≡ (was_seen seen k || a k)) → Unseen a seen → Unseen b after → ((k : ℕ) → a k ≡ true → b k ≡ false) × Unseen (λ k. a k || b k) seen
joined a b seen after is first second = (
  λ k h. turned (a k) (b k) (λ j. (none_of (was_seen seen k) (a k) (sym (is k) ∙ second k j)).1) h,
  λ k h. elim (or_true (a k) (b k) h) [ inl j ↦ first k j | inr j ↦ (none_of (was_seen seen k) (a k) (sym (is k) ∙ second k j)).0 ],
)

parted : (a b : ℕ → Bool) (seen after : List ℕ) → ((k : ℕ) → was_seen after k ≡ (was_seen seen k || a k)) → ((k : ℕ) → a k ≡ true → b k ≡ false) → Unseen (λ k. a k || b k) seen → Unseen a seen × Unseen b after
parted a b seen after is apart all = (
  λ k h. all k (or_left (a k) (b k) h),
  λ k h. is k ∙ both_false (was_seen seen k) (a k) (all k (or_right (a k) (b k) h)) (turned (b k) (a k) (apart k) h),
)

mutual
  pub new_once : (e : Path) (seen : List ℕ) → IsNew e seen → NamesOnce e × Unseen (names e) seen
  new_once (name o) seen h = (tt, λ k named. subst (λ i. was_seen seen i ≡ false) (sym (eqb-true k o named)) h)
  new_once (list ms) seen h = all_new_once ms seen h
  new_once (sequence ms) seen h = all_new_once ms seen h
  new_once (bound n e) seen h = new_once e seen h
  new_once (burst e) seen h = new_once e seen h

  pub all_new_once : (ms : Paths) (seen : List ℕ) → AllNew ms seen → EachOnce ms × Unseen (some_names ms) seen
  all_new_once (two a b) seen h =
      let p = new_once a seen h.0 in
      let q = new_once b (seen_after a seen) h.1 in
      let j = joined (names a) (names b) seen (seen_after a seen) (seen_names a seen) p.1 q.1 in
      ((p.0, q.0, j.0), j.1)
  all_new_once (more a rest) seen h =
      let p = new_once a seen h.0 in
      let q = all_new_once rest (seen_after a seen) h.1 in
      let j = joined (names a) (some_names rest) seen (seen_after a seen) (seen_names a seen) p.1 q.1 in
      ((p.0, q.0, j.0), j.1)

mutual
  pub once_new : (e : Path) (seen : List ℕ) → NamesOnce e → Unseen (names e) seen → IsNew e seen
  once_new (name o) seen once unseen = unseen o (eq-eqb o o refl)
  once_new (list ms) seen once unseen = all_once_new ms seen once unseen
  once_new (sequence ms) seen once unseen = all_once_new ms seen once unseen
  once_new (bound n e) seen once unseen = once_new e seen once unseen
  once_new (burst e) seen once unseen = once_new e seen once unseen

  pub all_once_new : (ms : Paths) (seen : List ℕ) → EachOnce ms → Unseen (some_names ms) seen → AllNew ms seen
  all_once_new (two a b) seen once unseen =
      let p = parted (names a) (names b) seen (seen_after a seen) (seen_names a seen) once.2 unseen in
      (once_new a seen once.0 p.0, once_new b (seen_after a seen) once.1 p.1)
  all_once_new (more a rest) seen once unseen =
      let p = parted (names a) (some_names rest) seen (seen_after a seen) (seen_names a seen) once.2 unseen in
      (once_new a seen once.0 p.0, all_once_new rest (seen_after a seen) once.1 p.1)

pub none_seen : (k : ℕ) → was_seen [] k ≡ false
none_seen k = refl
