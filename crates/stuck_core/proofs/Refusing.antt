-- A path refuses a start exactly where one of its nodes lacks something, and until what that node needs has ended.
use Rattle.std.proofs.Common.{◌≡◌, ℕ, suc, ◌+◌, ◌≤◌, inl, inr, false, List, [], ◌∷◌, refl, subst, arith}
use Rattle.std.proofs.lemmas.Bool.Decides.{leb_tells}
use Rattle.path_tree.specs.Path.{Path, Paths, name, list, sequence, bound, burst, two, more}
use Rattle.path_tree.specs.Trace.{Event, Start, IsTrace}
use Rattle.path_tree.specs.Counts.{started, ended, active, first_started}
use Rattle.path_tree.specs.Satisfies.{Holds, EachHolds, InTurn, Satisfies}
use Rattle.path_tree.specs.Names.{NamesOnce, EachOnce}
use Rattle.path_tree.specs.Limits.{node_count}
use Rattle.path_tree.proofs.StartLaws.{start_finishes}
use Rattle.path_count.proofs.Starting.{le_now}
use Rattle.path_count.specs.PathCalls.{called}
use Rattle.path_count.specs.Needs.{ends_by, GoesOnWithout, same, start, end}
use Rattle.path_count.proofs.NeedsEnd.{full, turn}
use Rattle.path_count.proofs.KeptApart.{begins_once, begins_once_first}
use Rattle.stuck_core.specs.Nodes.{enders}
use Rattle.stuck_core.specs.Waits.{is_among}
use Rattle.stuck_core.proofs.Forms.{among_enders}
use Rattle.stuck_core.specs.declared.reason.Lack.{Lack}
use Rattle.stuck_core.specs.declared.reason.Lack.TheVariants as lacks
use Rattle.stuck_core.specs.Lacks.{Why, first_of, Lacks, EachLacks, TurnLacks, WaitsFor}
use Rattle.stuck_core.proofs.Lacking.{first_is}

-- ---- a node that lacks something refuses the start ----

mutual
  pub refuses : (e : Path) (k number op : ℕ) (t : List Event) (why : Why) → IsTrace t → Holds e t → Lacks e k why number op t → Holds e (Start (called number op) ∷ t) → ⊥
  refuses (name o) k number op t why trace h lack after = lack
  refuses (list ms) k number op t why trace h lack after = refuses_each ms (k + 1) number op t why trace h lack after
  refuses (sequence ms) k number op t why trace h (inl lack) after = refuses_turn ms k 1 number op t why lack after.1
  refuses (sequence ms) k number op t why trace h (inr lack) after = refuses_each ms (k + 1) number op t why trace h.0 lack after.0
  refuses (bound n e) k number op t why trace h (inl lack) after =
      absurd (omega (arith, lack.1.0, lack.1.1, after.1, start_finishes e (called number op) t, le_now e t trace h.0))
  refuses (bound n e) k number op t why trace h (inr lack) after = refuses e (k + 1) number op t why trace h.0 lack after.0
  refuses (burst e) k number op t why trace h lack after = refuses e (k + 1) number op t why trace h lack after

  refuses_each : (ms : Paths) (k number op : ℕ) (t : List Event) (why : Why) → IsTrace t → EachHolds ms t → EachLacks ms k why number op t → EachHolds ms (Start (called number op) ∷ t) → ⊥
  refuses_each (two a b) k number op t why trace h (inl lack) after = refuses a k number op t why trace h.0 lack after.0
  refuses_each (two a b) k number op t why trace h (inr lack) after = refuses b (k + node_count a) number op t why trace h.1 lack after.1
  refuses_each (more a rest) k number op t why trace h (inl lack) after = refuses a k number op t why trace h.0 lack after.0
  refuses_each (more a rest) k number op t why trace h (inr lack) after = refuses_each rest (k + node_count a) number op t why trace h.1 lack after.1

  refuses_turn : (ms : Paths) (k j number op : ℕ) (t : List Event) (why : Why) → TurnLacks ms k j why number op t → InTurn ms (Start (called number op) ∷ t) → ⊥
  refuses_turn (two a b) k j number op t why lack after = absurd (omega (arith, lack.1.0, lack.1.1, after, start_finishes a (called number op) t))
  refuses_turn (more a rest) k j number op t why (inl lack) after =
      absurd (omega (arith, lack.1.0, lack.1.1, after.0, start_finishes a (called number op) t, first_is rest (Start (called number op) ∷ t)))
  refuses_turn (more a rest) k j number op t why (inr lack) after = refuses_turn rest k (j + 1) number op t why lack after.1

-- ---- where none does the path lets it start ----

-- of the path of this number
abbrev None : ℕ → (Why → Type 0) → Type 0
None path P = (why : Why) → why.path ≡ path → P why → ⊥

abbrev why_at : ℕ → ℕ → Lack → Path → Why
why_at path k lack e = record { path = path; node = k; lack = lack; needs = enders e }

mutual
  pub allows : (e : Path) (path k number op : ℕ) (t : List Event) → Holds e t → NamesOnce e → None path (λ why. Lacks e k why number op t) → Holds e (Start (called number op) ∷ t)
  allows (name o) path k number op t h once none = tt
  allows (list ms) path k number op t h once none = allows_each ms path (k + 1) number op t h once none
  allows (sequence ms) path k number op t h once none =
      (allows_each ms path (k + 1) number op t h.0 once (λ why its lack. none why its (inr lack)), allows_turn ms path k 1 number op t h.1 once (λ why its lack. none why its (inl lack)))
  allows (bound n e) path k number op t h once none =
      let c = called number op in
      let inner = allows e path (k + 1) number op t h.0 once (λ why its lack. none why its (inr lack)) in
      elim (leb_tells (suc n) (active e (Start c ∷ t))) [
        | inr within ↦ (inner, omega (arith, within.1))
        | inl over ↦ absurd (none (why_at path k lacks.Full e) refl
            (inl ((refl, refl, refl), (omega (arith, over.1, h.1, begins_once e c t once, start_finishes e c t), omega (arith, over.1, h.1, begins_once e c t once, start_finishes e c t)))))
      ]
  allows (burst e) path k number op t h once none = allows e path (k + 1) number op t h once none

  allows_each : (ms : Paths) (path k number op : ℕ) (t : List Event) → EachHolds ms t → EachOnce ms → None path (λ why. EachLacks ms k why number op t) → EachHolds ms (Start (called number op) ∷ t)
  allows_each (two a b) path k number op t h once none =
      (allows a path k number op t h.0 once.0 (λ why its lack. none why its (inl lack)), allows b path (k + node_count a) number op t h.1 once.1 (λ why its lack. none why its (inr lack)))
  allows_each (more a rest) path k number op t h once none =
      (allows a path k number op t h.0 once.0 (λ why its lack. none why its (inl lack)), allows_each rest path (k + node_count a) number op t h.1 once.1 (λ why its lack. none why its (inr lack)))

  allows_turn : (ms : Paths) (path k j number op : ℕ) (t : List Event) → InTurn ms t → EachOnce ms → None path (λ why. TurnLacks ms k j why number op t) → InTurn ms (Start (called number op) ∷ t)
  allows_turn (two a b) path k j number op t h once none =
      let c = called number op in
      elim (leb_tells (suc (ended a t)) (started b (Start c ∷ t))) [
        | inr within ↦ omega (arith, within.1, start_finishes a c t)
        | inl over ↦ absurd (none (why_at path k (lacks.Turn j) a) refl
            ((refl, refl, refl), (omega (arith, over.1, h, begins_once b c t once.1), omega (arith, over.1, h, begins_once b c t once.1))))
      ]
  allows_turn (more a rest) path k j number op t h once none =
      let c = called number op in
      let later = allows_turn rest path k (j + 1) number op t h.1 once.1 (λ why its lack. none why its (inr lack)) in
      elim (leb_tells (suc (ended a t)) (first_started rest (Start c ∷ t))) [
        | inr within ↦ (omega (arith, within.1, start_finishes a c t), later)
        | inl over ↦ absurd (none (why_at path k (lacks.Turn j) a) refl (inl (
          (refl, refl, refl),
          (
            omega (arith, over.1, h.0, begins_once_first rest c t once.1, first_is rest t),
            omega (arith, over.1, h.0, begins_once_first rest c t once.1, first_is rest t, first_is rest (Start c ∷ t)),
          ),
        )))
      ]

-- ---- what is needed ----

-- what a trace that satisfies one path satisfies of another one
satisfied_map : (p e : Path) → ((t : List Event) → Holds p t → Holds e t) → (t : List Event) → Satisfies p t → Satisfies e t
satisfied_map p e go [] h = go [] h
satisfied_map p e go (event ∷ past) h = (go (event ∷ past) h.0, satisfied_map p e go past h.1)

without_enders : (e : Path) (t u : List Event) → GoesOnWithout (is_among (enders e)) t u → GoesOnWithout (ends_by e) t u
without_enders e t u same = same
without_enders e t u (start c after) = start c (without_enders e t _ after)
without_enders e t u (end c not after) = end c (subst (λ b. b ≡ false) (among_enders e c.operation) not) (without_enders e t _ after)

-- a path that asks what a node of it asks waits for what the node needs
waits_at : (e p q : Path) (needs : List ℕ) (number op : ℕ) (t : List Event) → ((u : List Event) → Holds p u → Holds q u) → needs ≡ enders e →
    ((u : List Event) → GoesOnWithout (ends_by e) t u → IsTrace u → Satisfies q u → Satisfies q (Start (called number op) ∷ u) → ⊥) → WaitsFor needs p number op t
waits_at e p q needs number op t go is law = λ u after trace satisfied refused.
    law u (without_enders e t u (subst (λ x. GoesOnWithout (is_among x) t u) is after)) trace (satisfied_map p q go u satisfied) (satisfied_map p q go (Start (called number op) ∷ u) refused)

first_holds : (ms : Paths) (u : List Event) → EachHolds ms u → Holds (first_of ms) u
first_holds (two a b) u h = h.0
first_holds (more a rest) u h = h.0

first_once : (ms : Paths) → EachOnce ms → NamesOnce (first_of ms)
first_once (two a b) once = once.0
first_once (more a rest) once = once.0

-- a sequence asks of its first two members what a sequence of these alone asks
first_two : (a : Path) (rest : Paths) (u : List Event) → Holds (sequence (more a rest)) u → Holds (sequence (two a (first_of rest))) u
first_two a rest u h = ((h.0.0, first_holds rest u h.0.1), subst (λ n. n ≤ ended a u) (first_is rest u) h.1.0)

mutual
  pub waits : (e : Path) (k number op : ℕ) (t : List Event) (why : Why) (p : Path) → ((u : List Event) → Holds p u → Holds e u) → NamesOnce e → Lacks e k why number op t →
      WaitsFor why.needs p number op t
  waits (name o) k number op t why p go once lack = elim lack [ ]
  waits (list ms) k number op t why p go once lack = waits_each ms (k + 1) number op t why p go once lack
  waits (sequence ms) k number op t why p go once (inl lack) = waits_turn ms k 1 number op t why p go once lack
  waits (sequence ms) k number op t why p go once (inr lack) = waits_each ms (k + 1) number op t why p (λ u h. (go u h).0) once lack
  waits (bound n e) k number op t why p go once (inl lack) =
      waits_at e p (bound n e) why.needs number op t go lack.0.2 (λ u. full n e number op t u once lack.1.0 lack.1.1)
  waits (bound n e) k number op t why p go once (inr lack) = waits e (k + 1) number op t why p (λ u h. (go u h).0) once lack
  waits (burst e) k number op t why p go once lack = waits e (k + 1) number op t why p go once lack

  waits_each : (ms : Paths) (k number op : ℕ) (t : List Event) (why : Why) (p : Path) → ((u : List Event) → Holds p u → EachHolds ms u) → EachOnce ms → EachLacks ms k why number op t →
      WaitsFor why.needs p number op t
  waits_each (two a b) k number op t why p go once (inl lack) = waits a k number op t why p (λ u h. (go u h).0) once.0 lack
  waits_each (two a b) k number op t why p go once (inr lack) = waits b (k + node_count a) number op t why p (λ u h. (go u h).1) once.1 lack
  waits_each (more a rest) k number op t why p go once (inl lack) = waits a k number op t why p (λ u h. (go u h).0) once.0 lack
  waits_each (more a rest) k number op t why p go once (inr lack) = waits_each rest (k + node_count a) number op t why p (λ u h. (go u h).1) once.1 lack

  waits_turn : (ms : Paths) (k j number op : ℕ) (t : List Event) (why : Why) (p : Path) → ((u : List Event) → Holds p u → Holds (sequence ms) u) → EachOnce ms → TurnLacks ms k j why number op t →
      WaitsFor why.needs p number op t
  waits_turn (two a b) k j number op t why p go once lack =
      waits_at a p (sequence (two a b)) why.needs number op t go lack.0.2 (λ u. turn a b number op t u once.1 lack.1.0 lack.1.1)
  waits_turn (more a rest) k j number op t why p go once (inl lack) =
      waits_at a p (sequence (two a (first_of rest))) why.needs number op t (λ u h. first_two a rest u (go u h)) lack.0.2
      (λ u. turn a (first_of rest) number op t u (first_once rest once.1) lack.1.0 lack.1.1)
  waits_turn (more a rest) k j number op t why p go once (inr lack) =
      waits_turn rest k (j + 1) number op t why p (λ u h. let all = go u h in (all.0.1, all.1.1)) once.1 lack
