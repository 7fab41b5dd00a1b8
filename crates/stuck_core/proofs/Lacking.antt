-- What nodes lack by their counters is what they lack over the trace.
use Rattle.std.proofs.Common.{◌≡◌, ℕ, suc, ◌+◌, ◌-◌, ◌≤◌, ◌⊎◌, inl, inr, Bool, true, false, not, List, [], ◌∷◌, ◌++◌, refl, sym, ap, subst, arith, ◌∙◌, get_or}
use Rattle.std.specs.Prelude.{◌==◌, nat_lt, ◌&&◌, ◌↔◌, if◌then◌else◌}
use Rattle.std.proofs.lemmas.Bool.Decides.{nat_tests}
use Rattle.path_tree.specs.Path.{Path, Paths, name, list, sequence, bound, burst, two, more}
use Rattle.path_tree.specs.Trace.{Event, Start, IsTrace}
use Rattle.path_tree.specs.Counts.{started, ended, active, first_started}
use Rattle.path_tree.specs.Satisfies.{Holds, EachHolds, InTurn}
use Rattle.path_tree.specs.Names.{NamesOnce, EachOnce}
use Rattle.path_tree.specs.Limits.{node_count}
use Rattle.path_count.specs.Program.{slots}
use Rattle.path_count.specs.Kept.{Kept, KeptEach, KeptTurns}
use Rattle.path_count.specs.PathCalls.{called}
use Rattle.stuck_core.specs.Nodes.{enders}
use Rattle.stuck_core.specs.declared.reason.Lack.{Lack}
use Rattle.stuck_core.specs.declared.reason.Lack.TheVariants as lacks
use Rattle.stuck_core.specs.Begins.{begins, first_begins}
use Rattle.stuck_core.specs.Lacks.{Why, IsOf, IsFull, HasNoFinish, first_of, Lacks, EachLacks, TurnLacks}
use Rattle.stuck_core.specs.Reasons.{one_why, is_full, is_used_up, whys, each_whys, turn_whys}
use Rattle.stuck_core.specs.Tells.{IsOneOf}
use Rattle.stuck_core.proofs.Beginning.{begun, begun_first}

-- ---- lists of reasons ----

pub one_left : (why : Why) (xs ys : List Why) → IsOneOf why xs → IsOneOf why (xs ++ ys)
one_left why [] ys h = elim h [ ]
one_left why (x ∷ xs) ys (inl h) = inl h
one_left why (x ∷ xs) ys (inr h) = inr (one_left why xs ys h)

pub one_right : (why : Why) (xs ys : List Why) → IsOneOf why ys → IsOneOf why (xs ++ ys)
one_right why [] ys h = h
one_right why (x ∷ xs) ys h = inr (one_right why xs ys h)

pub one_either : (why : Why) (xs ys : List Why) → IsOneOf why (xs ++ ys) → IsOneOf why xs ⊎ IsOneOf why ys
one_either why [] ys h = inr h
one_either why (x ∷ xs) ys (inl h) = inl (inl h)
one_either why (x ∷ xs) ys (inr h) = elim (one_either why xs ys h) [ inl left ↦ inl (inr left) | inr right ↦ inr right ]

-- these are the reasons in a path of which something is so
abbrev pub Are : List Why → ℕ → (Why → Type 0) → Type 0
Are all path P = (why : Why) → IsOneOf why all ↔ ((why.path ≡ path) × P why)

are_both : (xs ys : List Why) (path : ℕ) (P Q : Why → Type 0) → Are xs path P → Are ys path Q → Are (xs ++ ys) path (λ why. P why ⊎ Q why)
are_both xs ys path P Q first second = λ why. (
  λ h. elim (one_either why xs ys h) [
    | inl left ↦ let x = (first why).0 left in (x.0, inl x.1)
    | inr right ↦ let x = (second why).0 right in (x.0, inr x.1)
  ],
  λ h. elim h.1 [
    | inl left ↦ one_left why xs ys ((first why).1 (h.0, left))
    | inr right ↦ one_right why xs ys ((second why).1 (h.0, right))
  ],
)

same_why : (a : Why) (path k : ℕ) (lack : Lack) (needs : List ℕ) → a.path ≡ path → a.node ≡ k → a.lack ≡ lack → a.needs ≡ needs →
    a ≡ record { path = path; node = k; lack = lack; needs = needs }
same_why a path k lack needs p n l s =
    subst (λ x. a ≡ record { path = x; node = k; lack = lack; needs = needs }) p
    (subst (λ x. a ≡ record { path = a.path; node = x; lack = lack; needs = needs }) n
    (subst (λ x. a ≡ record { path = a.path; node = a.node; lack = x; needs = needs }) l
    (subst (λ x. a ≡ record { path = a.path; node = a.node; lack = a.lack; needs = x }) s refl)))

-- where a test decides it, one reason is told
one_is : (is : Bool) (path k : ℕ) (lack : Lack) (e : Path) (P : Type 0) → (is ≡ true → P) → (P → is ≡ true) →
    Are (one_why is path k lack e) path (λ why. IsOf why k lack e × P)
one_is true path k lack e P is_so so_is = λ why. (
  λ h. elim h [
    | inl it ↦ (ap (λ (x : Why). x.path) it, ((ap (λ (x : Why). x.node) it, ap (λ (x : Why). x.lack) it, ap (λ (x : Why). x.needs) it), is_so refl))
    | inr none ↦ elim none [ ]
  ],
  λ h. inl (same_why why path k lack (enders e) h.0 h.1.0.0 h.1.0.1 h.1.0.2),
)
one_is false path k lack e P is_so so_is = λ why. (λ h. elim h [ ], λ h. absurd (no (so_is h.1.1)))
  where
    no : false ≡ true → ⊥
    no h = absurd (cc)

-- ---- one node ----

full_so : (b : Bool) (x n a s s' : ℕ) → x ≡ a → a ≤ n → s' ≡ s + (if b then 1 else 0) → b && not (nat_lt x n) ≡ true → (a ≡ n) × (s' ≡ suc s)
full_so true x n a s s' is most after h = (grind (arith, nat_tests), omega (arith, after))
full_so false x n a s s' is most after h = absurd (cc)

so_full : (b : Bool) (x n a s s' : ℕ) → x ≡ a → s' ≡ s + (if b then 1 else 0) → (a ≡ n) × (s' ≡ suc s) → b && not (nat_lt x n) ≡ true
so_full true x n a s s' is after h = let eq : x ≡ n = is ∙ h.0 in grind (arith, nat_tests)
so_full false x n a s s' is after h = absurd (omega (arith, after, h.1))

used_so : (b : Bool) (x f s s' : ℕ) → x ≡ f - s → s ≤ f → s' ≡ s + (if b then 1 else 0) → b && (x == 0) ≡ true → (f ≡ s) × (s' ≡ suc s)
used_so true x f s s' is most after h = (grind (arith, nat_tests), omega (arith, after))
used_so false x f s s' is most after h = absurd (cc)

so_used : (b : Bool) (x f s s' : ℕ) → x ≡ f - s → s' ≡ s + (if b then 1 else 0) → (f ≡ s) × (s' ≡ suc s) → b && (x == 0) ≡ true
so_used true x f s s' is after h = let eq : x ≡ 0 = omega (arith, is, h.0) in grind (arith, nat_tests)
so_used false x f s s' is after h = absurd (omega (arith, after, h.1))

pub first_is : (ms : Paths) (t : List Event) → first_started ms t ≡ started (first_of ms) t
first_is (two a b) t = refl
first_is (more a rest) t = refl

turns_each : (ms : Paths) (at : ℕ) (w : List ℕ) (t : List Event) → KeptTurns ms at w t → KeptEach ms at w t
turns_each (two a b) at w t kept = (kept.1, kept.2)
turns_each (more a rest) at w t kept = (kept.1, turns_each rest ((at + 1) + slots a) w t kept.2)

-- ---- any path ----

mutual
  pub are : (e : Path) (path at k number op : ℕ) (w : List ℕ) (t : List Event) → IsTrace t → Holds e t → NamesOnce e → Kept e at w t →
      Are (whys e path at k op w) path (λ why. Lacks e k why number op t)
  are (name o) path at k number op w t trace holds once kept = λ why. (λ h. elim h [ ], λ h. elim h.1 [ ])
  are (list ms) path at k number op w t trace holds once kept = are_each ms path at (k + 1) number op w t trace holds once kept
  are (sequence ms) path at k number op w t trace holds once kept =
      are_both (turn_whys ms path at k 1 op w) (each_whys ms path at (k + 1) op w) path (λ why. TurnLacks ms k 1 why number op t) (λ why. EachLacks ms (k + 1) why number op t)
      (are_turns ms path at k 1 number op w t trace holds.0 holds.1 once kept) (are_each ms path at (k + 1) number op w t trace holds.0 once (turns_each ms at w t kept))
  are (bound n e) path at k number op w t trace holds once kept =
      let after = begun e (at + 1) w (called number op) t trace holds.0 once kept.1 in
      are_both (one_why (is_full n e at op w) path k lacks.Full e) (whys e path (at + 1) (k + 1) op w) path
      (λ why. IsOf why k lacks.Full e × IsFull n e number op t) (λ why. Lacks e (k + 1) why number op t)
      (one_is (is_full n e at op w) path k lacks.Full e (IsFull n e number op t)
      (full_so (begins e (at + 1) op w) (get_or w at 0) n (active e t) (started e t) (started e (Start (called number op) ∷ t)) kept.0 holds.1 after)
      (so_full (begins e (at + 1) op w) (get_or w at 0) n (active e t) (started e t) (started e (Start (called number op) ∷ t)) kept.0 after))
      (are e path (at + 1) (k + 1) number op w t trace holds.0 once kept.1)
  are (burst e) path at k number op w t trace holds once kept = are e path (at + 1) (k + 1) number op w t trace holds once kept.1

  are_each : (ms : Paths) (path at k number op : ℕ) (w : List ℕ) (t : List Event) → IsTrace t → EachHolds ms t → EachOnce ms → KeptEach ms at w t →
      Are (each_whys ms path at k op w) path (λ why. EachLacks ms k why number op t)
  are_each (two a b) path at k number op w t trace holds once kept =
      are_both (whys a path (at + 1) k op w) (whys b path ((at + 1) + slots a) (k + node_count a) op w) path (λ why. Lacks a k why number op t) (λ why. Lacks b (k + node_count a) why number op t)
      (are a path (at + 1) k number op w t trace holds.0 once.0 kept.0)
      (are b path ((at + 1) + slots a) (k + node_count a) number op w t trace holds.1 once.1 kept.1)
  are_each (more a rest) path at k number op w t trace holds once kept =
      are_both (whys a path (at + 1) k op w) (each_whys rest path ((at + 1) + slots a) (k + node_count a) op w) path (λ why. Lacks a k why number op t) (λ why. EachLacks rest (k + node_count a) why number op t)
      (are a path (at + 1) k number op w t trace holds.0 once.0 kept.0)
      (are_each rest path ((at + 1) + slots a) (k + node_count a) number op w t trace holds.1 once.1 kept.1)

  are_turns : (ms : Paths) (path at k j number op : ℕ) (w : List ℕ) (t : List Event) → IsTrace t → EachHolds ms t → InTurn ms t → EachOnce ms → KeptTurns ms at w t →
      Are (turn_whys ms path at k j op w) path (λ why. TurnLacks ms k j why number op t)
  are_turns (two a b) path at k j number op w t trace holds turn once kept =
      let next = (at + 1) + slots a in
      let after = begun b next w (called number op) t trace holds.1 once.1 kept.2 in
      one_is (is_used_up (begins b next op w) at w) path k (lacks.Turn j) a (HasNoFinish a b number op t)
      (used_so (begins b next op w) (get_or w at 0) (ended a t) (started b t) (started b (Start (called number op) ∷ t)) kept.0 turn after)
      (so_used (begins b next op w) (get_or w at 0) (ended a t) (started b t) (started b (Start (called number op) ∷ t)) kept.0 after)
  are_turns (more a rest) path at k j number op w t trace holds turn once kept =
      let next = (at + 1) + slots a in
      let u = Start (called number op) ∷ t in
      let after : started (first_of rest) u ≡ started (first_of rest) t + (if first_begins rest next op w then 1 else 0) =
      sym (first_is rest u) ∙ begun_first rest next w (called number op) t trace holds.1 once.1 kept.2 ∙ ap (λ s. s + (if first_begins rest next op w then 1 else 0)) (first_is rest t) in
      let is : get_or w at 0 ≡ ended a t - started (first_of rest) t = kept.0 ∙ ap (λ s. ended a t - s) (first_is rest t) in
      are_both (one_why (is_used_up (first_begins rest next op w) at w) path k (lacks.Turn j) a) (turn_whys rest path next k (j + 1) op w) path
      (λ why. IsOf why k (lacks.Turn j) a × HasNoFinish a (first_of rest) number op t) (λ why. TurnLacks rest k (j + 1) why number op t)
      (one_is (is_used_up (first_begins rest next op w) at w) path k (lacks.Turn j) a (HasNoFinish a (first_of rest) number op t)
      (used_so (first_begins rest next op w) (get_or w at 0) (ended a t) (started (first_of rest) t) (started (first_of rest) u) is (omega (arith, turn.0, first_is rest t)) after)
      (so_used (first_begins rest next op w) (get_or w at 0) (ended a t) (started (first_of rest) t) (started (first_of rest) u) is after))
      (are_turns rest path next k (j + 1) number op w t trace holds.1 turn.1 once.1 kept.2)
