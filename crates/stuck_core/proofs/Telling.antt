-- What is told of an operation that waits is so.
use Rattle.std.proofs.Common.{◌≡◌, ℕ, zero, suc, ◌+◌, ◌≤◌, ◌⊎◌, inl, inr, List, [], ◌∷◌, ◌++◌, Some, None, refl, sym, subst, arith}
use Rattle.std.specs.Prelude.{◌↔◌, slice_get}
use Rattle.path_tree.specs.Path.{Path}
use Rattle.path_tree.specs.Trace.{Event, Start, IsTrace}
use Rattle.path_tree.specs.Satisfies.{Satisfies, SatisfiesAll}
use Rattle.path_tree.specs.Names.{NamesOnce}
use Rattle.path_tree.proofs.CountLaws.{holds_now}
use Rattle.path_count.specs.Program.{slots}
use Rattle.path_count.specs.Object.{KeptAll, AllOnce}
use Rattle.path_count.specs.PathCalls.{called}
use Rattle.stuck_core.specs.Lacks.{Why, Lacks, SomeLacks, WaitsFor}
use Rattle.stuck_core.specs.Reasons.{whys, all_whys}
use Rattle.stuck_core.specs.Tells.{IsCounted, IsOneOf, IsPathOf, Tells}
use Rattle.stuck_core.proofs.Lacking.{one_left, one_right, one_either, Are, are}
use Rattle.stuck_core.proofs.Refusing.{refuses, allows, waits}
use Rattle.stuck_core.proofs.Ordering.{all_in_order}

-- what is known of some paths, whose counters lie from a place on
record Known (paths : List Path) (at : ℕ) (w : List ℕ) (t : List Event) : Type 0 where
  trace : IsTrace t
  satisfied : SatisfiesAll paths t
  once : AllOnce paths
  kept : KeptAll paths at w t

later : (p : Path) (paths : List Path) (at : ℕ) (w : List ℕ) (t : List Event) → Known (p ∷ paths) at w t → Known paths (at + slots p) w t
later p paths at w t known = record { trace = known.trace; satisfied = known.satisfied.1; once = known.once.1; kept = known.kept.1 }

-- of the first of some paths
here : (p : Path) (paths : List Path) (i at number op : ℕ) (w : List ℕ) (t : List Event) → Known (p ∷ paths) at w t → Are (whys p i at 0 op w) i (λ why. Lacks p 0 why number op t)
here p paths i at number op w t known = are p i at 0 number op w t known.trace (holds_now p t known.satisfied.0) known.once.0 known.kept.0

nodes : (paths : List Path) (i at number op : ℕ) (w : List ℕ) (t : List Event) → Known paths at w t → (why : Why) →
    IsOneOf why (all_whys paths i at op w) ↔ SomeLacks paths i why number op t
nodes [] i at number op w t known why = (λ h. h, λ h. h)
nodes (p ∷ paths) i at number op w t known why =
    let first = here p paths i at number op w t known why in
    let rest = nodes paths (i + 1) (at + slots p) number op w t (later p paths at w t known) why in
    let xs = whys p i at 0 op w in
    let ys = all_whys paths (i + 1) (at + slots p) op w in (
      λ h. elim (one_either why xs ys h) [ inl left ↦ inl (first.0 left) | inr right ↦ inr (rest.0 right) ],
      λ h. elim h [ inl left ↦ one_left why xs ys (first.1 left) | inr right ↦ one_right why xs ys (rest.1 right) ],
    )

-- ---- which paths are named ----

path_left : (n : ℕ) (xs ys : List Why) → IsPathOf n xs → IsPathOf n (xs ++ ys)
path_left n [] ys h = elim h [ ]
path_left n (x ∷ xs) ys (inl h) = inl h
path_left n (x ∷ xs) ys (inr h) = inr (path_left n xs ys h)

path_right : (n : ℕ) (xs ys : List Why) → IsPathOf n ys → IsPathOf n (xs ++ ys)
path_right n [] ys h = h
path_right n (x ∷ xs) ys h = inr (path_right n xs ys h)

path_either : (n : ℕ) (xs ys : List Why) → IsPathOf n (xs ++ ys) → IsPathOf n xs ⊎ IsPathOf n ys
path_either n [] ys h = inr h
path_either n (x ∷ xs) ys (inl h) = inl (inl h)
path_either n (x ∷ xs) ys (inr h) = elim (path_either n xs ys h) [ inl left ↦ inl (inr left) | inr right ↦ inr right ]

path_some : (n : ℕ) (xs : List Why) → IsPathOf n xs → (why : Why) × IsOneOf why xs × (why.path ≡ n)
path_some n [] h = elim h [ ]
path_some n (x ∷ xs) (inl h) = (x, inl refl, h)
path_some n (x ∷ xs) (inr h) = let found = path_some n xs h in (found.0, inr found.1, found.2)

some_from : (paths : List Path) (i number op : ℕ) (t : List Event) (why : Why) → SomeLacks paths i why number op t → i ≤ why.path
some_from [] i number op t why h = elim h [ ]
some_from (p ∷ paths) i number op t why (inl h) = omega (arith, h.0)
some_from (p ∷ paths) i number op t why (inr h) = omega (arith, some_from paths (i + 1) number op t why h)

same_path : (p q : Path) → Some p ≡ Some q → p ≡ q
same_path p q h = cc

-- the first path refuses the start exactly where something is told of it
first_named : (p : Path) (i number op : ℕ) (t : List Event) (xs : List Why) → IsTrace t → Satisfies p t → NamesOnce p → Are xs i (λ why. Lacks p 0 why number op t) →
    (Satisfies p (Start (called number op) ∷ t) → ⊥) → IsPathOf i xs
first_named p i number op t [] trace satisfied once are_these refused =
    elim (refused (allows p i 0 number op t (holds_now p t satisfied) once (λ why its lack. (are_these why).1 (its, lack)), satisfied)) [ ]
first_named p i number op t (x ∷ xs) trace satisfied once are_these refused = inl ((are_these x).0 (inl refl)).0

not_same : (i k j : ℕ) → i + suc k ≡ j → i ≡ j → ⊥
not_same i k j h e = absurd (omega (arith, h, e))

named : (paths : List Path) (i at number op : ℕ) (w : List ℕ) (t : List Event) → Known paths at w t → (j : ℕ) (p : Path) → slice_get paths j ≡ Some p →
    IsPathOf (i + j) (all_whys paths i at op w) ↔ (Satisfies p (Start (called number op) ∷ t) → ⊥)
named [] i at number op w t known j p there = absurd (none p there)
  where
    none : (p : Path) → None ≡ Some p → ⊥
    none p h = absurd (cc)
named (q ∷ paths) i at number op w t known zero p there =
    let xs = whys q i at 0 op w in
    let ys = all_whys paths (i + 1) (at + slots q) op w in
    let are_these = here q paths i at number op w t known in
    subst (λ x. IsPathOf (i + 0) (xs ++ ys) ↔ (Satisfies x (Start (called number op) ∷ t) → ⊥)) (same_path q p there) (
      λ h. elim (path_either (i + 0) xs ys h) [
        | inl left ↦ let found = path_some (i + 0) xs left in
            λ allowed. refuses q 0 number op t found.0 known.trace (holds_now q t known.satisfied.0) ((are_these found.0).0 found.1).1 (holds_now q (Start (called number op) ∷ t) allowed)
        | inr right ↦ let found = path_some (i + 0) ys right in
            absurd (omega (arith, found.2, some_from paths (i + 1) number op t found.0 ((nodes paths (i + 1) (at + slots q) number op w t (later q paths at w t known) found.0).0 found.1)))
      ],
      λ refused. subst (λ n. IsPathOf n (xs ++ ys)) (plus_none i) (path_left i xs ys (first_named q i number op t xs known.trace known.satisfied.0 known.once.0 are_these refused)),
    )
  where
    plus_none : (i : ℕ) → i ≡ i + 0
    plus_none i = omega arith
named (q ∷ paths) i at number op w t known (suc j) p there =
    let xs = whys q i at 0 op w in
    let ys = all_whys paths (i + 1) (at + slots q) op w in
    let are_these = here q paths i at number op w t known in
    let rest = named paths (i + 1) (at + slots q) number op w t (later q paths at w t known) j p there in (
      λ h. elim (path_either (i + suc j) xs ys h) [
        | inl left ↦ let found = path_some (i + suc j) xs left in absurd (omega (arith, found.2, ((are_these found.0).0 found.1).0))
        | inr right ↦ rest.0 (subst (λ n. IsPathOf n ys) (next i j) right)
      ],
      λ refused. path_right (i + suc j) xs ys (subst (λ n. IsPathOf n ys) (sym (next i j)) (rest.1 refused)),
    )
  where
    next : (i j : ℕ) → i + suc j ≡ (i + 1) + j
    next i j = omega arith

-- ---- what is needed ----

waits_for : (paths : List Path) (i number op : ℕ) (t : List Event) (why : Why) (j : ℕ) (p : Path) → AllOnce paths → SomeLacks paths i why number op t → why.path ≡ i + j → slice_get paths j ≡ Some p →
    WaitsFor why.needs p number op t
waits_for [] i number op t why j p once lack is there = elim lack [ ]
waits_for (q ∷ paths) i number op t why zero p once (inl lack) is there =
    subst (λ x. WaitsFor why.needs x number op t) (same_path q p there) (waits q 0 number op t why q (λ u h. h) once.0 lack.1)
waits_for (q ∷ paths) i number op t why zero p once (inr lack) is there = absurd (omega (arith, is, some_from paths (i + 1) number op t why lack))
waits_for (q ∷ paths) i number op t why (suc j) p once (inl lack) is there = absurd (omega (arith, is, lack.0))
waits_for (q ∷ paths) i number op t why (suc j) p once (inr lack) is there = waits_for paths (i + 1) number op t why j p once.1 lack (omega (arith, is)) there

-- ---- the whole ----

pub tells : (paths : List Path) (op : ℕ) (w : List ℕ) (t : List Event) (all : List Why) → IsCounted paths w t → all ≡ all_whys paths 1 0 op w → Tells paths op t all
tells paths op w t all counted is = subst (λ x. Tells paths op t x) (sym is) (record {
  nodes = λ number why. nodes paths 1 0 number op w t known why;
  order = (all_in_order paths 1 0 op w counted.once).0;
  named = λ number i p there. named paths 1 0 number op w t known i p there;
  needs = λ number i why p one its there. waits_for paths 1 number op t why i p counted.once ((nodes paths 1 0 number op w t known why).0 one) its there;
})
  where
    known : Known paths 0 w t
    known = record { trace = counted.trace; satisfied = counted.satisfied; once = counted.once; kept = counted.kept }
