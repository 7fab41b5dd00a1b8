-- What a finish does to the counts, and that the counters follow.
use Rattle.std.proofs.Common.{◌≡◌, ℕ, ◌+◌, ◌-◌, ◌<◌, ◌≤◌, ◌⊎◌, inl, inr, Bool, true, false, List, ◌∷◌, refl, arith, ◌∙◌, length, get_or, subst}
use Rattle.std.proofs.Math.ListN.{set}
use Rattle.std.specs.Prelude.{◌==◌, nat_lt, ◌&&◌, ◌||◌, if◌then◌else◌}
use Rattle.std.proofs.lemmas.Bool.Decides.{nat_tests}
use Rattle.path_tree.specs.Path.{Path, Paths, name, list, sequence, bound, burst, two, more}
use Rattle.path_tree.specs.Trace.{Call, Event, End, starts, ends, IsTrace}
use Rattle.path_tree.specs.Counts.{started, ended, active, sum_ended, first_started, last_ended}
use Rattle.path_tree.specs.Satisfies.{Holds, EachHolds, InTurn}
use Rattle.path_tree.specs.Names.{names, some_names, NamesOnce, EachOnce}
use Rattle.path_tree.specs.Laws.{Counted, EachCounted, sum_active}
use Rattle.path_tree.proofs.CountLaws.{counted, end_begins, end_begins_first}
use Rattle.path_tree.proofs.StartLaws.{either_false}
use Rattle.path_count.specs.Program.{slots, slots_of}
use Rattle.path_count.specs.Kept.{Kept, KeptEach, KeptTurns}
use Rattle.path_count.proofs.PathWalk.{choose, or_right, kept_same, each_same, turns_same}
use Rattle.path_count.proofs.Starting.{slot_value, same_above, same_outside_below, same_outside_above}
use Rattle.path_count.proofs.FinishWalk.{closes, closes_some, closes_last, left, left_some, left_turn, left_outside, left_some_outside, left_turn_outside, left_length}

same_fall : (b f b' f' : ℕ) → {r : ℕ} → b' ≡ b → f' ≡ f → (if nat_lt 0 (b - f) && (b' - f' == 0) then 1 else 0) + r ≡ r
same_fall b f b' f' same_b same_f = grind (arith, nat_tests)

-- the end of an operation that a node does not name ends nothing in it
mutual
  pub absent_finishes : (e : Path) (call : Call) (t : List Event) → names e call.operation ≡ false → ended e (End call ∷ t) ≡ ended e t
  absent_finishes (name o) call t h = rw h (omega arith)
  absent_finishes (list ms) call t h = absent_finishes_of ms call t h
  absent_finishes (sequence ms) call t h = absent_finishes_last ms call t h
  absent_finishes (bound n e) call t h = absent_finishes e call t h
  absent_finishes (burst e) call t h = same_fall (started e t) (ended e t) (started e (End call ∷ t)) (ended e (End call ∷ t)) (end_begins e call t) (absent_finishes e call t h)

  pub absent_finishes_of : (ms : Paths) (call : Call) (t : List Event) → some_names ms call.operation ≡ false → sum_ended ms (End call ∷ t) ≡ sum_ended ms t
  absent_finishes_of (two a b) call t h = let both = either_false (names a call.operation) (names b call.operation) h in omega (arith, absent_finishes a call t both.0, absent_finishes b call t both.1)
  absent_finishes_of (more a rest) call t h = let both = either_false (names a call.operation) (some_names rest call.operation) h in omega (arith, absent_finishes a call t both.0, absent_finishes_of rest call t both.1)

  pub absent_finishes_last : (ms : Paths) (call : Call) (t : List Event) → some_names ms call.operation ≡ false → last_ended ms (End call ∷ t) ≡ last_ended ms t
  absent_finishes_last (two a b) call t h = absent_finishes b call t (either_false (names a call.operation) (names b call.operation) h).1
  absent_finishes_last (more a rest) call t h = absent_finishes_last rest call t (either_false (names a call.operation) (some_names rest call.operation) h).1

mutual
  pub absent_left : (e : Path) (at : ℕ) (w : List ℕ) (call : Call) (t : List Event) → names e call.operation ≡ false → Kept e at w t → Kept e at w (End call ∷ t)
  absent_left (name o) at w call t absent h = tt
  absent_left (list ms) at w call t absent h = absent_left_each ms at w call t absent h
  absent_left (sequence ms) at w call t absent h = absent_left_turns ms at w call t absent h
  absent_left (bound n e) at w call t absent h = (omega (arith, h.0, end_begins e call t, absent_finishes e call t absent), absent_left e (at + 1) w call t absent h.1)
  absent_left (burst e) at w call t absent h = (omega (arith, h.0, end_begins e call t, absent_finishes e call t absent), absent_left e (at + 1) w call t absent h.1)

  pub absent_left_each : (ms : Paths) (at : ℕ) (w : List ℕ) (call : Call) (t : List Event) → some_names ms call.operation ≡ false → KeptEach ms at w t → KeptEach ms at w (End call ∷ t)
  absent_left_each (two a b) at w call t absent h = let both = either_false (names a call.operation) (names b call.operation) absent in
      (absent_left a (at + 1) w call t both.0 h.0, absent_left b ((at + 1) + slots a) w call t both.1 h.1)
  absent_left_each (more a rest) at w call t absent h = let both = either_false (names a call.operation) (some_names rest call.operation) absent in
      (absent_left a (at + 1) w call t both.0 h.0, absent_left_each rest ((at + 1) + slots a) w call t both.1 h.1)

  pub absent_left_turns : (ms : Paths) (at : ℕ) (w : List ℕ) (call : Call) (t : List Event) → some_names ms call.operation ≡ false → KeptTurns ms at w t → KeptTurns ms at w (End call ∷ t)
  absent_left_turns (two a b) at w call t absent h = let both = either_false (names a call.operation) (names b call.operation) absent in
      (omega (arith, h.0, end_begins b call t, absent_finishes a call t both.0), absent_left a (at + 1) w call t both.0 h.1, absent_left b ((at + 1) + slots a) w call t both.1 h.2)
  absent_left_turns (more a rest) at w call t absent h = let both = either_false (names a call.operation) (some_names rest call.operation) absent in
      (omega (arith, h.0, end_begins_first rest call t, absent_finishes a call t both.0), absent_left a (at + 1) w call t both.0 h.1, absent_left_turns rest ((at + 1) + slots a) w call t both.1 h.2)

-- while an operation runs, each node that names it is active
either_true : (x y : Bool) → x || y ≡ true → (x ≡ true) ⊎ (y ≡ true)
either_true true y h = inl refl
either_true false y h = inr h

same_name : (op o : ℕ) → (op == o) ≡ true → op ≡ o
same_name op o h = grind (arith, nat_tests)

one_if : (x a : ℕ) → a ≡ (if nat_lt 0 x then 1 else 0) → 0 < x → 0 < a
one_if x a is up = grind (arith, nat_tests)

mutual
  pub active_in : (e : Path) (op : ℕ) (t : List Event) → Counted e t → names e op ≡ true → ends op t < starts op t → 0 < active e t
  active_in (name o) op t all named runs = subst (λ x. 0 < starts x t - ends x t) (same_name op o named) (omega (arith, runs))
  active_in (list ms) op t all named runs = omega (arith, all.2, active_in_some ms op t all.0 named runs)
  active_in (sequence ms) op t all named runs = omega (arith, all.2, active_in_some ms op t all.0 named runs)
  active_in (bound n e) op t all named runs = omega (arith, all.2, active_in e op t all.0 named runs)
  active_in (burst e) op t all named runs = one_if (active e t) (active (burst e) t) all.2 (active_in e op t all.0 named runs)

  pub active_in_some : (ms : Paths) (op : ℕ) (t : List Event) → EachCounted ms t → some_names ms op ≡ true → ends op t < starts op t → 0 < sum_active ms t
  active_in_some (two a b) op t all named runs = elim (either_true (names a op) (names b op) named) [
    | inl here ↦ omega (arith, active_in a op t all.0 here runs)
    | inr there ↦ omega (arith, active_in b op t all.1 there runs)
  ]
  active_in_some (more a rest) op t all named runs = elim (either_true (names a op) (some_names rest op) named) [
    | inl here ↦ omega (arith, active_in a op t all.0 here runs)
    | inr there ↦ omega (arith, active_in_some rest op t all.1 there runs)
  ]

-- a burst ends where nothing is open inside any longer
burst_fall : (o : Bool) (b f b' f' x r : ℕ) → x ≡ b - f → 0 < b - f → b' ≡ b → f' ≡ f + (if o then 1 else 0) →
    (if nat_lt 0 (b - f) && (b' - f' == 0) then 1 else 0) + r ≡ r + (if (if o then (if nat_lt 1 x then false else true) else false) then 1 else 0)
burst_fall true b f b' f' x r slot runs same up = grind (arith, nat_tests)
burst_fall false b f b' f' x r slot runs same up = grind (arith, nat_tests)

-- what has ended after the finish
mutual
  pub end_finishes : (e : Path) (at : ℕ) (w : List ℕ) (call : Call) (t : List Event) → IsTrace t → Holds e t → NamesOnce e → names e call.operation ≡ true → ends call.operation t < starts call.operation t → Kept e at w t →
      ended e (End call ∷ t) ≡ ended e t + (if closes e at call.operation w then 1 else 0)
  end_finishes (name o) at w call t trace holds once named runs kept = rw named (omega arith)
  end_finishes (list ms) at w call t trace holds once named runs kept = end_finishes_of ms at w call t trace holds once named runs kept
  end_finishes (sequence ms) at w call t trace holds once named runs kept = end_finishes_last ms at w call t trace holds.0 once named runs kept
  end_finishes (bound n e) at w call t trace holds once named runs kept = end_finishes e (at + 1) w call t trace holds.0 once named runs kept.1
  end_finishes (burst e) at w call t trace holds once named runs kept =
      burst_fall (closes e (at + 1) call.operation w) (started e t) (ended e t) (started e (End call ∷ t)) (ended e (End call ∷ t)) (get_or w at 0) (ended (burst e) t)
      kept.0 (active_in e call.operation t (counted e t trace holds) named runs) (end_begins e call t) (end_finishes e (at + 1) w call t trace holds once named runs kept.1)

  pub end_finishes_of : (ms : Paths) (at : ℕ) (w : List ℕ) (call : Call) (t : List Event) → IsTrace t → EachHolds ms t → EachOnce ms → some_names ms call.operation ≡ true → ends call.operation t < starts call.operation t → KeptEach ms at w t →
      sum_ended ms (End call ∷ t) ≡ sum_ended ms t + (if closes_some ms at call.operation w then 1 else 0)
  end_finishes_of (two a b) at w call t trace holds once named runs kept =
      choose (λ u. sum_ended (two a b) (End call ∷ t) ≡ sum_ended (two a b) t + (if u then 1 else 0)) (names a call.operation) (closes a (at + 1) call.operation w) (closes b ((at + 1) + slots a) call.operation w)
      (λ here. omega (arith, end_finishes a (at + 1) w call t trace holds.0 once.0 here runs kept.0, absent_finishes b call t (once.2 call.operation here)))
      (λ not_here. omega (
        arith,
        absent_finishes a call t not_here,
        end_finishes b ((at + 1) + slots a) w call t trace holds.1 once.1 (or_right (names a call.operation) (names b call.operation) named not_here) runs kept.1,
      ))
  end_finishes_of (more a rest) at w call t trace holds once named runs kept =
      choose (λ u. sum_ended (more a rest) (End call ∷ t) ≡ sum_ended (more a rest) t + (if u then 1 else 0)) (names a call.operation) (closes a (at + 1) call.operation w) (closes_some rest ((at + 1) + slots a) call.operation w)
      (λ here. omega (arith, end_finishes a (at + 1) w call t trace holds.0 once.0 here runs kept.0, absent_finishes_of rest call t (once.2 call.operation here)))
      (λ not_here. omega (
        arith,
        absent_finishes a call t not_here,
        end_finishes_of rest ((at + 1) + slots a) w call t trace holds.1 once.1 (or_right (names a call.operation) (some_names rest call.operation) named not_here) runs kept.1,
      ))

  pub end_finishes_last : (ms : Paths) (at : ℕ) (w : List ℕ) (call : Call) (t : List Event) → IsTrace t → EachHolds ms t → EachOnce ms → some_names ms call.operation ≡ true → ends call.operation t < starts call.operation t → KeptTurns ms at w t →
      last_ended ms (End call ∷ t) ≡ last_ended ms t + (if closes_last ms at call.operation w then 1 else 0)
  end_finishes_last (two a b) at w call t trace holds once named runs kept =
      choose (λ u. ended b (End call ∷ t) ≡ ended b t + (if u then 1 else 0)) (names a call.operation) false (closes b ((at + 1) + slots a) call.operation w)
      (λ here. omega (arith, absent_finishes b call t (once.2 call.operation here)))
      (λ not_here. end_finishes b ((at + 1) + slots a) w call t trace holds.1 once.1 (or_right (names a call.operation) (names b call.operation) named not_here) runs kept.2)
  end_finishes_last (more a rest) at w call t trace holds once named runs kept =
      choose (λ u. last_ended rest (End call ∷ t) ≡ last_ended rest t + (if u then 1 else 0)) (names a call.operation) false (closes_last rest ((at + 1) + slots a) call.operation w)
      (λ here. omega (arith, absent_finishes_last rest call t (once.2 call.operation here)))
      (λ not_here. end_finishes_last rest ((at + 1) + slots a) w call t trace holds.1 once.1 (or_right (names a call.operation) (some_names rest call.operation) named not_here) runs kept.2)

fewer_open : (o : Bool) (b f b' f' x : ℕ) → x ≡ b - f → b' ≡ b → f' ≡ f + (if o then 1 else 0) → (if o then x - 1 else x) ≡ b' - f'
fewer_open true b f b' f' x slot same up = omega arith
fewer_open false b f b' f' x slot same up = omega arith

more_left : (o : Bool) (f b f' b' x : ℕ) → x ≡ f - b → b ≤ f → f' ≡ f + (if o then 1 else 0) → b' ≡ b → (if o then x + 1 else x) ≡ f' - b'
more_left true f b f' b' x slot in_turn up same = omega arith
more_left false f b f' b' x slot in_turn up same = omega arith

around : (e : Path) (at : ℕ) (w : List ℕ) (call : Call) (t : List Event) → IsTrace t → Holds e t → NamesOnce e → names e call.operation ≡ true → ends call.operation t < starts call.operation t →
    at + (1 + slots e) ≤ length w → get_or w at 0 ≡ active e t → Kept e (at + 1) w t →
    Kept e (at + 1) (left e (at + 1) call.operation w) (End call ∷ t) →
    let v = if closes e (at + 1) call.operation w then set (left e (at + 1) call.operation w) at (get_or w at 0 - 1) else left e (at + 1) call.operation w in
    (get_or v at 0 ≡ active e (End call ∷ t)) × Kept e (at + 1) v (End call ∷ t)
around e at w call t trace holds once named runs fits slot kept inner =
    let op = call.operation in (
      slot_value (closes e (at + 1) op w) (left e (at + 1) op w) w at (get_or w at 0 - 1) (slots e) (left_length e (at + 1) op w) (omega arith) (left_outside e (at + 1) op w)
          ∙ fewer_open (closes e (at + 1) op w) (started e t) (ended e t) (started e (End call ∷ t)) (ended e (End call ∷ t)) (get_or w at 0) slot
          (end_begins e call t) (end_finishes e (at + 1) w call t trace holds once named runs kept),
      kept_same e (at + 1) (if closes e (at + 1) op w then set (left e (at + 1) op w) at (get_or w at 0 - 1) else left e (at + 1) op w) (left e (at + 1) op w) (End call ∷ t)
          inner
          (same_above (closes e (at + 1) op w) (left e (at + 1) op w) at (get_or w at 0 - 1) (at + 1) (slots e) (omega arith)),
    )

-- the counters follow the finish
mutual
  pub finish_kept : (e : Path) (at : ℕ) (w : List ℕ) (call : Call) (t : List Event) → IsTrace t → Holds e t → NamesOnce e → names e call.operation ≡ true → ends call.operation t < starts call.operation t → at + slots e ≤ length w → Kept e at w t →
      Kept e at (left e at call.operation w) (End call ∷ t)
  finish_kept (name o) at w call t trace holds once named runs fits kept = tt
  finish_kept (list ms) at w call t trace holds once named runs fits kept = finish_kept_each ms at w call t trace holds once named runs fits kept
  finish_kept (sequence ms) at w call t trace holds once named runs fits kept = finish_kept_turns ms at w call t trace holds.0 holds.1 once named runs fits kept
  finish_kept (bound n e) at w call t trace holds once named runs fits kept = around e at w call t trace holds.0 once named runs fits kept.0 kept.1 (finish_kept e (at + 1) w call t trace holds.0 once named runs (omega arith) kept.1)
  finish_kept (burst e) at w call t trace holds once named runs fits kept = around e at w call t trace holds once named runs fits kept.0 kept.1 (finish_kept e (at + 1) w call t trace holds once named runs (omega arith) kept.1)

  pub finish_kept_each : (ms : Paths) (at : ℕ) (w : List ℕ) (call : Call) (t : List Event) → IsTrace t → EachHolds ms t → EachOnce ms → some_names ms call.operation ≡ true → ends call.operation t < starts call.operation t → at + slots_of ms ≤ length w → KeptEach ms at w t →
      KeptEach ms at (left_some ms at call.operation w) (End call ∷ t)
  finish_kept_each (two a b) at w call t trace holds once named runs fits kept =
      let op = call.operation in
      let next = (at + 1) + slots a in
      choose (λ v. KeptEach (two a b) at v (End call ∷ t)) (names a op) (left a (at + 1) op w) (left b next op w)
      (λ here. (
        finish_kept a (at + 1) w call t trace holds.0 once.0 here runs (omega arith) kept.0,
        kept_same b next (left a (at + 1) op w) w (End call ∷ t) (absent_left b next w call t (once.2 op here) kept.1)
            (same_outside_above (left a (at + 1) op w) w (at + 1) (slots a) next (slots b) (left_outside a (at + 1) op w) (omega arith)),
      ))
      (λ not_here. (
        kept_same a (at + 1) (left b next op w) w (End call ∷ t) (absent_left a (at + 1) w call t not_here kept.0)
            (same_outside_below (left b next op w) w next (slots b) (at + 1) (slots a) (left_outside b next op w) (omega arith)),
        finish_kept b next w call t trace holds.1 once.1 (or_right (names a op) (names b op) named not_here) runs (omega arith) kept.1,
      ))
  finish_kept_each (more a rest) at w call t trace holds once named runs fits kept =
      let op = call.operation in
      let next = (at + 1) + slots a in
      choose (λ v. KeptEach (more a rest) at v (End call ∷ t)) (names a op) (left a (at + 1) op w) (left_some rest next op w)
      (λ here. (
        finish_kept a (at + 1) w call t trace holds.0 once.0 here runs (omega arith) kept.0,
        each_same rest next (left a (at + 1) op w) w (End call ∷ t) (absent_left_each rest next w call t (once.2 op here) kept.1)
            (same_outside_above (left a (at + 1) op w) w (at + 1) (slots a) next (slots_of rest) (left_outside a (at + 1) op w) (omega arith)),
      ))
      (λ not_here. (
        kept_same a (at + 1) (left_some rest next op w) w (End call ∷ t) (absent_left a (at + 1) w call t not_here kept.0)
            (same_outside_below (left_some rest next op w) w next (slots_of rest) (at + 1) (slots a) (left_some_outside rest next op w) (omega arith)),
        finish_kept_each rest next w call t trace holds.1 once.1 (or_right (names a op) (some_names rest op) named not_here) runs (omega arith) kept.1,
      ))

  pub finish_kept_turns : (ms : Paths) (at : ℕ) (w : List ℕ) (call : Call) (t : List Event) → IsTrace t → EachHolds ms t → InTurn ms t → EachOnce ms → some_names ms call.operation ≡ true → ends call.operation t < starts call.operation t → at + slots_of ms ≤ length w → KeptTurns ms at w t →
      KeptTurns ms at (left_turn ms at call.operation w) (End call ∷ t)
  finish_kept_turns (two a b) at w call t trace holds turn once named runs fits kept =
      let op = call.operation in
      let next = (at + 1) + slots a in
      let v0 = left a (at + 1) op w in
      let v = if closes a (at + 1) op w then set v0 at (get_or w at 0 + 1) else v0 in
      choose (λ u. KeptTurns (two a b) at u (End call ∷ t)) (names a op) v (left b next op w)
      (λ here.
      let out = left_outside a (at + 1) op w in (
        slot_value (closes a (at + 1) op w) v0 w at (get_or w at 0 + 1) (slots a) (left_length a (at + 1) op w) (omega arith) out
            ∙ more_left (closes a (at + 1) op w) (ended a t) (started b t) (ended a (End call ∷ t)) (started b (End call ∷ t)) (get_or w at 0) kept.0 turn
            (end_finishes a (at + 1) w call t trace holds.0 once.0 here runs kept.1) (end_begins b call t),
        kept_same a (at + 1) v v0 (End call ∷ t)
            (finish_kept a (at + 1) w call t trace holds.0 once.0 here runs (omega arith) kept.1)
            (same_above (closes a (at + 1) op w) v0 at (get_or w at 0 + 1) (at + 1) (slots a) (omega arith)),
        kept_same b next v v0 (End call ∷ t)
            (kept_same b next v0 w (End call ∷ t) (absent_left b next w call t (once.2 op here) kept.2) (same_outside_above v0 w (at + 1) (slots a) next (slots b) out (omega arith)))
            (same_above (closes a (at + 1) op w) v0 at (get_or w at 0 + 1) next (slots b) (omega arith)),
      ))
      (λ not_here. (
        left_outside b next op w at (inl (omega arith)) ∙ omega (arith, kept.0, end_begins b call t, absent_finishes a call t not_here),
        kept_same a (at + 1) (left b next op w) w (End call ∷ t) (absent_left a (at + 1) w call t not_here kept.1)
            (same_outside_below (left b next op w) w next (slots b) (at + 1) (slots a) (left_outside b next op w) (omega arith)),
        finish_kept b next w call t trace holds.1 once.1 (or_right (names a op) (names b op) named not_here) runs (omega arith) kept.2,
      ))
  finish_kept_turns (more a rest) at w call t trace holds turn once named runs fits kept =
      let op = call.operation in
      let next = (at + 1) + slots a in
      let v0 = left a (at + 1) op w in
      let v = if closes a (at + 1) op w then set v0 at (get_or w at 0 + 1) else v0 in
      choose (λ u. KeptTurns (more a rest) at u (End call ∷ t)) (names a op) v (left_turn rest next op w)
      (λ here.
      let out = left_outside a (at + 1) op w in (
        slot_value (closes a (at + 1) op w) v0 w at (get_or w at 0 + 1) (slots a) (left_length a (at + 1) op w) (omega arith) out
            ∙ more_left (closes a (at + 1) op w) (ended a t) (first_started rest t) (ended a (End call ∷ t)) (first_started rest (End call ∷ t)) (get_or w at 0) kept.0 turn.0
            (end_finishes a (at + 1) w call t trace holds.0 once.0 here runs kept.1) (end_begins_first rest call t),
        kept_same a (at + 1) v v0 (End call ∷ t)
            (finish_kept a (at + 1) w call t trace holds.0 once.0 here runs (omega arith) kept.1)
            (same_above (closes a (at + 1) op w) v0 at (get_or w at 0 + 1) (at + 1) (slots a) (omega arith)),
        turns_same rest next v v0 (End call ∷ t)
            (turns_same rest next v0 w (End call ∷ t) (absent_left_turns rest next w call t (once.2 op here) kept.2) (same_outside_above v0 w (at + 1) (slots a) next (slots_of rest) out (omega arith)))
            (same_above (closes a (at + 1) op w) v0 at (get_or w at 0 + 1) next (slots_of rest) (omega arith)),
      ))
      (λ not_here. (
        left_turn_outside rest next op w at (inl (omega arith)) ∙ omega (arith, kept.0, end_begins_first rest call t, absent_finishes a call t not_here),
        kept_same a (at + 1) (left_turn rest next op w) w (End call ∷ t) (absent_left a (at + 1) w call t not_here kept.1)
            (same_outside_below (left_turn rest next op w) w next (slots_of rest) (at + 1) (slots a) (left_turn_outside rest next op w) (omega arith)),
        finish_kept_turns rest next w call t trace holds.1 turn.1 once.1 (or_right (names a op) (some_names rest op) named not_here) runs (omega arith) kept.2,
      ))
