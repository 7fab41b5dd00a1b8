-- What has to end before a refused start.
use Rattle.std.proofs.Common.{◌≡◌, ℕ, suc, ◌+◌, ◌-◌, ◌≤◌, ◌⊎◌, inl, inr, Bool, true, false, List, [], ◌∷◌, refl, ap, arith, ◌∙◌}
use Rattle.std.specs.Prelude.{◌==◌, nat_lt, ◌&&◌, if◌then◌else◌}
use Rattle.std.proofs.lemmas.Bool.Decides.{nat_tests}
use Rattle.path_tree.specs.Path.{Path, Paths, name, list, sequence, bound, burst, two, more}
use Rattle.path_tree.specs.Trace.{Call, Event, Start, End, starts, IsTrace}
use Rattle.path_tree.specs.Counts.{started, ended, active, sum_started, sum_ended, first_started, last_ended}
use Rattle.path_tree.specs.Satisfies.{Holds, EachHolds, Satisfies}
use Rattle.path_tree.specs.Names.{NamesOnce, EachOnce}
use Rattle.path_count.specs.PathCalls.{called}
use Rattle.path_count.specs.Needs.{ends_by, some_ends_by, last_ends_by, GoesOnWithout, same, start, end, WouldBegin, FullNeedsEnd, TurnNeedsEnd}
use Rattle.path_tree.proofs.CountLaws.{end_begins, holds_now, counted, finished_le, more_finished}
use Rattle.path_tree.proofs.StartLaws.{more_begun, more_begun_of, start_finishes, either_false}
use Rattle.path_count.proofs.Absent.{no_end}
use Rattle.path_count.proofs.Drains.{either}
use Rattle.path_count.proofs.KeptApart.{begins_once, begins_once_of}

mutual
  not_ended : (e : Path) (c : Call) (t : List Event) → ends_by e c.operation ≡ false → ended e (End c ∷ t) ≡ ended e t
  not_ended (name o) c t h = rw h (omega arith)
  not_ended (list ms) c t h = not_ended_of ms c t h
  not_ended (sequence ms) c t h = not_ended_last ms c t h
  not_ended (bound n e) c t h = not_ended e c t h
  not_ended (burst e) c t h = no_end (started e t) (ended e t) (started e (End c ∷ t)) (ended e (End c ∷ t)) (not_ended e c t h) (end_begins e c t)

  not_ended_of : (ms : Paths) (c : Call) (t : List Event) → some_ends_by ms c.operation ≡ false → sum_ended ms (End c ∷ t) ≡ sum_ended ms t
  not_ended_of (two a b) c t h = let no = either_false (ends_by a c.operation) (ends_by b c.operation) h in omega (arith, not_ended a c t no.0, not_ended b c t no.1)
  not_ended_of (more a rest) c t h = let no = either_false (ends_by a c.operation) (some_ends_by rest c.operation) h in omega (arith, not_ended a c t no.0, not_ended_of rest c t no.1)

  not_ended_last : (ms : Paths) (c : Call) (t : List Event) → last_ends_by ms c.operation ≡ false → last_ended ms (End c ∷ t) ≡ last_ended ms t
  not_ended_last (two a b) c t h = not_ended b c t h
  not_ended_last (more a rest) c t h = not_ended_last rest c t h

same_ended : (e : Path) (t u : List Event) → GoesOnWithout (ends_by e) t u → ended e u ≡ ended e t
same_ended e t u same = refl
same_ended e t u (start {u = v} c after) = omega (arith, start_finishes e c v, same_ended e t v after)
same_ended e t u (end {u = v} c not after) = omega (arith, not_ended e c v not, same_ended e t v after)

later_begun : (ending : ℕ → Bool) (e : Path) (t u : List Event) → GoesOnWithout ending t u → started e t ≤ started e u
later_begun ending e t u same = omega arith
later_begun ending e t u (start {u = v} c after) = omega (arith, more_begun e (Start c) v, later_begun ending e t v after)
later_begun ending e t u (end {u = v} c not after) = omega (arith, more_begun e (End c) v, later_begun ending e t v after)

later_begun_of : (ending : ℕ → Bool) (ms : Paths) (t u : List Event) → GoesOnWithout ending t u → sum_started ms t ≤ sum_started ms u
later_begun_of ending ms t u same = omega arith
later_begun_of ending ms t u (start {u = v} c after) = omega (arith, more_begun_of ms (Start c) v, later_begun_of ending ms t v after)
later_begun_of ending ms t u (end {u = v} c not after) = omega (arith, more_begun_of ms (End c) v, later_begun_of ending ms t v after)

-- something holds at each moment of a trace
abbrev Always : (List Event → Type 0) → List Event → Type 0
Always holds [] = holds []
Always holds (event ∷ past) = holds (event ∷ past) × Always holds past

always_map : (p q : List Event → Type 0) → ((t : List Event) → p t → q t) → (t : List Event) → Always p t → Always q t
always_map p q f [] h = f [] h
always_map p q f (event ∷ past) h = (f (event ∷ past) h.0, always_map p q f past h.1)

always_holds : (e : Path) (t : List Event) → Satisfies e t → Always (Holds e) t
always_holds e [] h = h
always_holds e (event ∷ past) h = (h.0, always_holds e past h.1)

always_now : (p : List Event → Type 0) (t : List Event) → Always p t → p t
always_now p [] h = h
always_now p (event ∷ past) h = h.0

-- a closed burst that does not open stays as it is
quiet_start : (s f s' r r' x : ℕ) → s - f ≡ 0 → f ≤ s → s ≤ s' → r' ≡ (if (s - f == 0) && nat_lt 0 (s' - f) then 1 else 0) + r → r' ≡ x → x ≤ r → (s' - f ≡ 0) × (s' ≡ s)
quiet_start s f s' r r' x closed le grown now is at_least = (grind (arith, nat_tests), grind (arith, nat_tests))

record Quiet (e : Path) (t u : List Event) : Type 0 where
  closed : active e u ≡ 0
  begun : started e u ≡ started e t

no_less : (e : Path) (t : List Event) → IsTrace t → Holds e t → ended e t ≤ started e t
no_less e t trace h = finished_le e t (counted e t trace h)

quiet : (ending : ℕ → Bool) (e : Path) (t u : List Event) → GoesOnWithout ending t u → IsTrace u → Always (Holds e) u → active e t ≡ 0 → started (burst e) u ≡ started (burst e) t → Quiet e t u
quiet ending e t u same trace h closed none = record { closed = closed; begun = refl }
quiet ending e t u (start {u = v} c after) trace h closed none =
    let before = quiet ending e t v after trace.1 h.1 closed (omega (arith, none, more_begun (burst e) (Start c) v, later_begun ending (burst e) t v after)) in
    let now = quiet_start (started e v) (ended e v) (started e (Start c ∷ v)) (started (burst e) v) (started (burst e) (Start c ∷ v)) (started (burst e) t)
    before.closed (no_less e v trace.1 (always_now (Holds e) v h.1)) (more_begun e (Start c) v)
    (ap (λ x. (if (active e v == 0) && nat_lt 0 x then 1 else 0) + started (burst e) v) (omega (arith, start_finishes e c v))) none (later_begun ending (burst e) t v after) in
    record { closed = omega (arith, now.0, start_finishes e c v); begun = omega (arith, now.1, before.begun) }
quiet ending e t u (end {u = v} c not after) trace h closed none =
    let before = quiet ending e t v after trace.1 h.1 closed (omega (arith, none, more_begun (burst e) (End c) v, later_begun ending (burst e) t v after)) in
    record { closed = omega (arith, before.closed, end_begins e c v, more_finished e (End c) v); begun = omega (arith, before.begun, end_begins e c v) }

still_one : (b : Bool) (x y : ℕ) → (if b then 1 else 0) + x ≡ suc x → (if b then 1 else 0) + y ≡ suc y
still_one true x y h = omega arith
still_one false x y h = absurd (omega (arith, h))

nat_cases : (a a' : ℕ) → a ≤ a' → a' ≤ 1 + a → (a' ≡ suc a) ⊎ (a' ≡ a)
nat_cases a a' le most = elim (either (a' == a)) [ inl it_is ↦ inr (grind (arith, nat_tests)) | inr it_is_not ↦ inl (grind (arith, nat_tests)) ]

one_of_two : (a b a' b' : ℕ) → a' + b' ≡ suc (a + b) → a ≤ a' → b ≤ b' → a' ≤ 1 + a → b' ≤ 1 + b → (a' ≡ suc a) ⊎ (b' ≡ suc b)
one_of_two a b a' b' sum le_a le_b most_a most_b = elim (nat_cases a a' le_a most_a) [ inl grown ↦ inl grown | inr still ↦ inr (omega (arith, sum, still)) ]

burst_opened : (s f s' r : ℕ) → (if (s - f == 0) && nat_lt 0 (s' - f) then 1 else 0) + r ≡ suc r → s' ≤ 1 + s → s ≤ s' → (s - f ≡ 0) × (s' ≡ suc s)
burst_opened s f s' r h most grown = (grind (arith, nat_tests), grind (arith, nat_tests))

burst_reopens : (s f s' r : ℕ) → s - f ≡ 0 → f ≤ s → s' ≡ suc s → (if (s - f == 0) && nat_lt 0 (s' - f) then 1 else 0) + r ≡ suc r
burst_reopens s f s' r closed le grown = grind (arith, nat_tests)

-- what a start would have begun it would still begin, where nothing has begun there since
mutual
  still : (ending : ℕ → Bool) (e : Path) (number op : ℕ) (t u : List Event) → NamesOnce e → GoesOnWithout ending t u → IsTrace u → Always (Holds e) u →
      started e u ≡ started e t → WouldBegin number op e t → WouldBegin number op e u
  still ending (name o) number op t u once after trace h none would = still_one (op == o) (starts o t) (starts o u) would
  still ending (list ms) number op t u once after trace h none would = still_of ending ms number op t u once after trace h none would
  still ending (sequence ms) number op t u once after trace h none would =
      still_first ending ms number op t u once after trace (always_map (Holds (sequence ms)) (EachHolds ms) (λ v x. x.0) u h) none would
  still ending (bound n e) number op t u once after trace h none would =
      still ending e number op t u once after trace (always_map (Holds (bound n e)) (Holds e) (λ v x. x.0) u h) none would
  still ending (burst e) number op t u once after trace h none would =
      let c = called number op in
      let opened = burst_opened (started e t) (ended e t) (started e (Start c ∷ t)) (started (burst e) t)
      (ap (λ x. (if (active e t == 0) && nat_lt 0 x then 1 else 0) + started (burst e) t) (omega (arith, start_finishes e c t)) ∙ would) (begins_once e c t once) (more_begun e (Start c) t) in
      let inner = quiet ending e t u after trace h opened.0 none in
      ap (λ x. (if (active e u == 0) && nat_lt 0 x then 1 else 0) + started (burst e) u) (omega (arith, start_finishes e c u))
      ∙ burst_reopens (started e u) (ended e u) (started e (Start c ∷ u)) (started (burst e) u) inner.closed (no_less e u trace (always_now (Holds e) u h))
      (still ending e number op t u once after trace h inner.begun opened.1)

  still_of : (ending : ℕ → Bool) (ms : Paths) (number op : ℕ) (t u : List Event) → EachOnce ms → GoesOnWithout ending t u → IsTrace u → Always (EachHolds ms) u →
      sum_started ms u ≡ sum_started ms t → sum_started ms (Start (called number op) ∷ t) ≡ suc (sum_started ms t) → sum_started ms (Start (called number op) ∷ u) ≡ suc (sum_started ms u)
  still_of ending (two a b) number op t u once after trace h none would =
      let c = called number op in
      elim (one_of_two (started a t) (started b t) (started a (Start c ∷ t)) (started b (Start c ∷ t)) would (more_begun a (Start c) t) (more_begun b (Start c) t)
      (begins_once a c t once.0) (begins_once b c t once.1)) [
        | inl first ↦ omega (
          arith,
          begins_once_of (two a b) c u once,
          more_begun b (Start c) u,
          still ending a number op t u once.0 after trace
              (always_map (EachHolds (two a b)) (Holds a) (λ v x. x.0) u h) (omega (arith, none, later_begun ending a t u after, later_begun ending b t u after)) first,
        )
        | inr second ↦ omega (
          arith,
          begins_once_of (two a b) c u once,
          more_begun a (Start c) u,
          still ending b number op t u once.1 after trace
              (always_map (EachHolds (two a b)) (Holds b) (λ v x. x.1) u h) (omega (arith, none, later_begun ending a t u after, later_begun ending b t u after)) second,
        )
      ]
  still_of ending (more a others) number op t u once after trace h none would =
      let c = called number op in
      elim (one_of_two (started a t) (sum_started others t) (started a (Start c ∷ t)) (sum_started others (Start c ∷ t)) would (more_begun a (Start c) t) (more_begun_of others (Start c) t)
      (begins_once a c t once.0) (begins_once_of others c t once.1)) [
        | inl first ↦ omega (
          arith,
          begins_once_of (more a others) c u once,
          more_begun_of others (Start c) u,
          still ending a number op t u once.0 after trace
              (always_map (EachHolds (more a others)) (Holds a) (λ v x. x.0) u h) (omega (arith, none, later_begun ending a t u after, later_begun_of ending others t u after)) first,
        )
        | inr second ↦ omega (
          arith,
          begins_once_of (more a others) c u once,
          more_begun a (Start c) u,
          still_of ending others number op t u once.1 after trace
              (always_map (EachHolds (more a others)) (EachHolds others) (λ v x. x.1) u h) (omega (arith, none, later_begun ending a t u after, later_begun_of ending others t u after)) second,
        )
      ]

  still_first : (ending : ℕ → Bool) (ms : Paths) (number op : ℕ) (t u : List Event) → EachOnce ms → GoesOnWithout ending t u → IsTrace u → Always (EachHolds ms) u →
      first_started ms u ≡ first_started ms t → first_started ms (Start (called number op) ∷ t) ≡ suc (first_started ms t) → first_started ms (Start (called number op) ∷ u) ≡ suc (first_started ms u)
  still_first ending (two a b) number op t u once after trace h none would =
      still ending a number op t u once.0 after trace (always_map (EachHolds (two a b)) (Holds a) (λ v x. x.0) u h) none would
  still_first ending (more a others) number op t u once after trace h none would =
      still ending a number op t u once.0 after trace (always_map (EachHolds (more a others)) (Holds a) (λ v x. x.0) u h) none would

back_trace : (ending : ℕ → Bool) (t u : List Event) → GoesOnWithout ending t u → IsTrace u → IsTrace t
back_trace ending t u same trace = trace
back_trace ending t u (start {u = v} c after) trace = back_trace ending t v after trace.1
back_trace ending t u (end {u = v} c not after) trace = back_trace ending t v after trace.1

back_always : (p : List Event → Type 0) (ending : ℕ → Bool) (t u : List Event) → GoesOnWithout ending t u → Always p u → p t
back_always p ending t u same h = always_now p u h
back_always p ending t u (start {u = v} c after) h = back_always p ending t v after h.1
back_always p ending t u (end {u = v} c not after) h = back_always p ending t v after h.1

pub full : FullNeedsEnd
full n e number op t u once is_full would after trace h refused =
    let always : Always (Holds e) u = always_map (Holds (bound n e)) (Holds e) (λ v x. x.0) u (always_holds (bound n e) u h) in
    let first = no_less e t (back_trace (ends_by e) t u after trace) (back_always (Holds e) (ends_by e) t u after always) in
    let even = same_ended e t u after in
    let more_now = later_begun (ends_by e) e t u after in
    let at_most = (holds_now (bound n e) u h).1 in
    let begun = still (ends_by e) e number op t u once after trace always (omega (arith, is_full, first, even, more_now, at_most)) would in
    absurd (omega (arith, is_full, first, even, more_now, begun, start_finishes e (called number op) u, refused.0.1))

pub turn : TurnNeedsEnd
turn a b number op t u once used would after trace h refused =
    let always : Always (Holds b) u = always_map (Holds (sequence (two a b))) (Holds b) (λ v x. x.0.1) u (always_holds (sequence (two a b)) u h) in
    let even = same_ended a t u after in
    let more_now = later_begun (ends_by a) b t u after in
    let in_turn = (holds_now (sequence (two a b)) u h).1 in
    let begun = still (ends_by a) b number op t u once after trace always (omega (arith, used, even, more_now, in_turn)) would in
    absurd (omega (arith, used, even, more_now, in_turn, begun, start_finishes a (called number op) u, refused.0.1))
