-- What a start does to the counts, and that the counters follow.
use Rattle.std.proofs.Common.{◌≡◌, ◌≢◌, ℕ, ◌+◌, ◌-◌, ◌<◌, ◌≤◌, inl, inr, Bool, true, false, List, ◌∷◌, refl, arith, ◌∙◌, length, get_or}
use Rattle.std.proofs.Math.ListN.{set}
use Rattle.std.specs.Prelude.{◌==◌, nat_lt, ◌&&◌, if◌then◌else◌}
use Rattle.std.proofs.lemmas.Bool.Decides.{nat_tests}
use Rattle.std.proofs.lemmas.List.{get_or-set_same, get_or-set_other}
use Rattle.path_tree.specs.Path.{Path, Paths, name, list, sequence, bound, burst, two, more}
use Rattle.path_tree.specs.Trace.{Call, Event, Start, IsTrace}
use Rattle.path_tree.specs.Counts.{started, ended, active, sum_started, first_started}
use Rattle.path_tree.specs.Satisfies.{Holds, EachHolds, InTurn}
use Rattle.path_tree.specs.Names.{names, some_names, NamesOnce, EachOnce}
use Rattle.path_tree.proofs.CountLaws.{counted, finished_le}
use Rattle.path_tree.proofs.StartLaws.{absent_begins, absent_begins_of, absent_begins_first, start_finishes, either_false}
use Rattle.path_count.specs.Program.{slots, slots_of}
use Rattle.path_count.specs.Kept.{Kept, KeptEach, KeptTurns}
use Rattle.path_count.proofs.PathWalk.{opens, opens_some, opens_first, after, after_some, after_turn, choose, or_right, Outside, Same, after_outside, some_outside, turn_outside, after_length, turn_length, kept_same, each_same, turns_same}

-- no more has ended than has started
pub le_now : (e : Path) (t : List Event) → IsTrace t → Holds e t → ended e t ≤ started e t
le_now e t trace h = finished_le e t (counted e t trace h)

-- what a start of another operation leaves
mutual
  pub absent_holds : (e : Path) (call : Call) (t : List Event) → names e call.operation ≡ false → Holds e t → Holds e (Start call ∷ t)
  absent_holds (name o) call t absent h = tt
  absent_holds (list ms) call t absent h = absent_each ms call t absent h
  absent_holds (sequence ms) call t absent h = (absent_each ms call t absent h.0, absent_turn ms call t absent h.1)
  absent_holds (bound n e) call t absent h = (absent_holds e call t absent h.0, omega (arith, h.1, absent_begins e call t absent, start_finishes e call t))
  absent_holds (burst e) call t absent h = absent_holds e call t absent h

  pub absent_each : (ms : Paths) (call : Call) (t : List Event) → some_names ms call.operation ≡ false → EachHolds ms t → EachHolds ms (Start call ∷ t)
  absent_each (two a b) call t absent h = let both = either_false (names a call.operation) (names b call.operation) absent in (absent_holds a call t both.0 h.0, absent_holds b call t both.1 h.1)
  absent_each (more a rest) call t absent h = let both = either_false (names a call.operation) (some_names rest call.operation) absent in (absent_holds a call t both.0 h.0, absent_each rest call t both.1 h.1)

  pub absent_turn : (ms : Paths) (call : Call) (t : List Event) → some_names ms call.operation ≡ false → InTurn ms t → InTurn ms (Start call ∷ t)
  absent_turn (two a b) call t absent h = omega (arith, h, absent_begins b call t (either_false (names a call.operation) (names b call.operation) absent).1, start_finishes a call t)
  absent_turn (more a rest) call t absent h = let both = either_false (names a call.operation) (some_names rest call.operation) absent in
      (omega (arith, h.0, absent_begins_first rest call t both.1, start_finishes a call t), absent_turn rest call t both.1 h.1)

mutual
  pub absent_kept : (e : Path) (at : ℕ) (w : List ℕ) (call : Call) (t : List Event) → names e call.operation ≡ false → Kept e at w t → Kept e at w (Start call ∷ t)
  absent_kept (name o) at w call t absent h = tt
  absent_kept (list ms) at w call t absent h = absent_kept_each ms at w call t absent h
  absent_kept (sequence ms) at w call t absent h = absent_kept_turns ms at w call t absent h
  absent_kept (bound n e) at w call t absent h = (omega (arith, h.0, absent_begins e call t absent, start_finishes e call t), absent_kept e (at + 1) w call t absent h.1)
  absent_kept (burst e) at w call t absent h = (omega (arith, h.0, absent_begins e call t absent, start_finishes e call t), absent_kept e (at + 1) w call t absent h.1)

  pub absent_kept_each : (ms : Paths) (at : ℕ) (w : List ℕ) (call : Call) (t : List Event) → some_names ms call.operation ≡ false → KeptEach ms at w t → KeptEach ms at w (Start call ∷ t)
  absent_kept_each (two a b) at w call t absent h = let both = either_false (names a call.operation) (names b call.operation) absent in
      (absent_kept a (at + 1) w call t both.0 h.0, absent_kept b ((at + 1) + slots a) w call t both.1 h.1)
  absent_kept_each (more a rest) at w call t absent h = let both = either_false (names a call.operation) (some_names rest call.operation) absent in
      (absent_kept a (at + 1) w call t both.0 h.0, absent_kept_each rest ((at + 1) + slots a) w call t both.1 h.1)

  pub absent_kept_turns : (ms : Paths) (at : ℕ) (w : List ℕ) (call : Call) (t : List Event) → some_names ms call.operation ≡ false → KeptTurns ms at w t → KeptTurns ms at w (Start call ∷ t)
  absent_kept_turns (two a b) at w call t absent h = let both = either_false (names a call.operation) (names b call.operation) absent in
      (omega (arith, h.0, absent_begins b call t both.1, start_finishes a call t), absent_kept a (at + 1) w call t both.0 h.1, absent_kept b ((at + 1) + slots a) w call t both.1 h.2)
  absent_kept_turns (more a rest) at w call t absent h = let both = either_false (names a call.operation) (some_names rest call.operation) absent in
      (omega (arith, h.0, absent_begins_first rest call t both.1, start_finishes a call t), absent_kept a (at + 1) w call t both.0 h.1, absent_kept_turns rest ((at + 1) + slots a) w call t both.1 h.2)

-- a burst starts where nothing was open inside
burst_rise : (o : Bool) (b f b' f' x r : ℕ) → x ≡ b - f → f ≤ b → b' ≡ b + (if o then 1 else 0) → f' ≡ f →
    (if (b - f == 0) && nat_lt 0 (b' - f') then 1 else 0) + r ≡ r + (if (if o then (if nat_lt 0 x then false else true) else false) then 1 else 0)
burst_rise true b f b' f' x r slot le up same = grind (arith, nat_tests)
burst_rise false b f b' f' x r slot le up same = grind (arith, nat_tests)

-- what has begun after the start
mutual
  pub start_begins : (e : Path) (at : ℕ) (w : List ℕ) (call : Call) (t : List Event) → IsTrace t → Holds e t → NamesOnce e → names e call.operation ≡ true → Kept e at w t →
      started e (Start call ∷ t) ≡ started e t + (if opens e at call.operation w then 1 else 0)
  start_begins (name o) at w call t trace holds once named kept = rw named (omega arith)
  start_begins (list ms) at w call t trace holds once named kept = start_begins_of ms at w call t trace holds once named kept
  start_begins (sequence ms) at w call t trace holds once named kept = start_begins_first ms at w call t trace holds.0 once named kept
  start_begins (bound n e) at w call t trace holds once named kept = start_begins e (at + 1) w call t trace holds.0 once named kept.1
  start_begins (burst e) at w call t trace holds once named kept =
      burst_rise (opens e (at + 1) call.operation w) (started e t) (ended e t) (started e (Start call ∷ t)) (ended e (Start call ∷ t)) (get_or w at 0) (started (burst e) t)
      kept.0 (le_now e t trace holds) (start_begins e (at + 1) w call t trace holds once named kept.1) (start_finishes e call t)

  pub start_begins_of : (ms : Paths) (at : ℕ) (w : List ℕ) (call : Call) (t : List Event) → IsTrace t → EachHolds ms t → EachOnce ms → some_names ms call.operation ≡ true → KeptEach ms at w t →
      sum_started ms (Start call ∷ t) ≡ sum_started ms t + (if opens_some ms at call.operation w then 1 else 0)
  start_begins_of (two a b) at w call t trace holds once named kept =
      choose (λ u. sum_started (two a b) (Start call ∷ t) ≡ sum_started (two a b) t + (if u then 1 else 0)) (names a call.operation) (opens a (at + 1) call.operation w) (opens b ((at + 1) + slots a) call.operation w)
      (λ here. omega (arith, start_begins a (at + 1) w call t trace holds.0 once.0 here kept.0, absent_begins b call t (once.2 call.operation here)))
      (λ not_here. omega (
        arith,
        absent_begins a call t not_here,
        start_begins b ((at + 1) + slots a) w call t trace holds.1 once.1 (or_right (names a call.operation) (names b call.operation) named not_here) kept.1,
      ))
  start_begins_of (more a rest) at w call t trace holds once named kept =
      choose (λ u. sum_started (more a rest) (Start call ∷ t) ≡ sum_started (more a rest) t + (if u then 1 else 0)) (names a call.operation) (opens a (at + 1) call.operation w) (opens_some rest ((at + 1) + slots a) call.operation w)
      (λ here. omega (arith, start_begins a (at + 1) w call t trace holds.0 once.0 here kept.0, absent_begins_of rest call t (once.2 call.operation here)))
      (λ not_here. omega (
        arith,
        absent_begins a call t not_here,
        start_begins_of rest ((at + 1) + slots a) w call t trace holds.1 once.1 (or_right (names a call.operation) (some_names rest call.operation) named not_here) kept.1,
      ))

  pub start_begins_first : (ms : Paths) (at : ℕ) (w : List ℕ) (call : Call) (t : List Event) → IsTrace t → EachHolds ms t → EachOnce ms → some_names ms call.operation ≡ true → KeptTurns ms at w t →
      first_started ms (Start call ∷ t) ≡ first_started ms t + (if opens_first ms at call.operation w then 1 else 0)
  start_begins_first (two a b) at w call t trace holds once named kept =
      choose (λ u. started a (Start call ∷ t) ≡ started a t + (if u then 1 else 0)) (names a call.operation) (opens a (at + 1) call.operation w) false
      (λ here. start_begins a (at + 1) w call t trace holds.0 once.0 here kept.1)
      (λ not_here. omega (arith, absent_begins a call t not_here))
  start_begins_first (more a rest) at w call t trace holds once named kept =
      choose (λ u. started a (Start call ∷ t) ≡ started a t + (if u then 1 else 0)) (names a call.operation) (opens a (at + 1) call.operation w) false
      (λ here. start_begins a (at + 1) w call t trace holds.0 once.0 here kept.1)
      (λ not_here. omega (arith, absent_begins a call t not_here))

-- a counter that a step may have written
pub slot_value : (o : Bool) (v w : List ℕ) (at x size : ℕ) → length v ≡ length w → at < length w → Outside v w (at + 1) size →
    get_or (if o then set v at x else v) at 0 ≡ (if o then x else get_or w at 0)
slot_value true v w at x size same_length inside out = get_or-set_same v at x 0 (omega arith)
slot_value false v w at x size same_length inside out = out at (inl (omega arith))

pub same_above : (o : Bool) (v : List ℕ) (at x at' size : ℕ) → at < at' → Same (if o then set v at x else v) v at' size
same_above true v at x at' size above k lo hi = let ne : k ≢ at = omega arith in get_or-set_other v at k x 0 ne
same_above false v at x at' size above k lo hi = refl

more_open : (o : Bool) (b f b' f' x : ℕ) → x ≡ b - f → f ≤ b → b' ≡ b + (if o then 1 else 0) → f' ≡ f → (if o then x + 1 else x) ≡ b' - f'
more_open true b f b' f' x slot le up same = omega arith
more_open false b f b' f' x slot le up same = omega arith

fewer_left : (o : Bool) (f b f' b' x : ℕ) → x ≡ f - b → b' ≡ b + (if o then 1 else 0) → f' ≡ f → (if o then x - 1 else x) ≡ f' - b'
fewer_left true f b f' b' x slot up same = omega arith
fewer_left false f b f' b' x slot up same = omega arith

pub same_outside_below : (v w : List ℕ) (at size at' size' : ℕ) → Outside v w at size → at' + size' ≤ at → Same v w at' size'
same_outside_below v w at size at' size' out below k lo hi = out k (inl (omega arith))

pub same_outside_above : (v w : List ℕ) (at size at' size' : ℕ) → Outside v w at size → at + size ≤ at' → Same v w at' size'
same_outside_above v w at size at' size' out above k lo hi = out k (inr (omega arith))

around : (e : Path) (at : ℕ) (w : List ℕ) (call : Call) (t : List Event) → IsTrace t → Holds e t → NamesOnce e → names e call.operation ≡ true → at + (1 + slots e) ≤ length w → get_or w at 0 ≡ active e t → Kept e (at + 1) w t →
    Kept e (at + 1) (after e (at + 1) call.operation w) (Start call ∷ t) →
    let v = if opens e (at + 1) call.operation w then set (after e (at + 1) call.operation w) at (get_or w at 0 + 1) else after e (at + 1) call.operation w in
    (get_or v at 0 ≡ active e (Start call ∷ t)) × Kept e (at + 1) v (Start call ∷ t)
around e at w call t trace holds once named fits slot kept inner = (
  slot_value (opens e (at + 1) call.operation w) (after e (at + 1) call.operation w) w at (get_or w at 0 + 1) (slots e) (after_length e (at + 1) call.operation w) (omega arith) (after_outside e (at + 1) call.operation w)
      ∙ more_open (opens e (at + 1) call.operation w) (started e t) (ended e t) (started e (Start call ∷ t)) (ended e (Start call ∷ t)) (get_or w at 0) slot (le_now e t trace holds)
      (start_begins e (at + 1) w call t trace holds once named kept) (start_finishes e call t),
  kept_same e (at + 1) (if opens e (at + 1) call.operation w then set (after e (at + 1) call.operation w) at (get_or w at 0 + 1) else after e (at + 1) call.operation w) (after e (at + 1) call.operation w) (Start call ∷ t)
      inner
      (same_above (opens e (at + 1) call.operation w) (after e (at + 1) call.operation w) at (get_or w at 0 + 1) (at + 1) (slots e) (omega arith)),
)

-- the counters follow the start
mutual
  pub start_kept : (e : Path) (at : ℕ) (w : List ℕ) (call : Call) (t : List Event) → IsTrace t → Holds e t → NamesOnce e → names e call.operation ≡ true → at + slots e ≤ length w → Kept e at w t →
      Kept e at (after e at call.operation w) (Start call ∷ t)
  start_kept (name o) at w call t trace holds once named fits kept = tt
  start_kept (list ms) at w call t trace holds once named fits kept = start_kept_each ms at w call t trace holds once named fits kept
  start_kept (sequence ms) at w call t trace holds once named fits kept = start_kept_turns ms at w call t trace holds.0 once named fits kept
  start_kept (bound n e) at w call t trace holds once named fits kept = around e at w call t trace holds.0 once named fits kept.0 kept.1 (start_kept e (at + 1) w call t trace holds.0 once named (omega arith) kept.1)
  start_kept (burst e) at w call t trace holds once named fits kept = around e at w call t trace holds once named fits kept.0 kept.1 (start_kept e (at + 1) w call t trace holds once named (omega arith) kept.1)

  pub start_kept_each : (ms : Paths) (at : ℕ) (w : List ℕ) (call : Call) (t : List Event) → IsTrace t → EachHolds ms t → EachOnce ms → some_names ms call.operation ≡ true → at + slots_of ms ≤ length w → KeptEach ms at w t →
      KeptEach ms at (after_some ms at call.operation w) (Start call ∷ t)
  start_kept_each (two a b) at w call t trace holds once named fits kept =
      choose (λ v. KeptEach (two a b) at v (Start call ∷ t)) (names a call.operation) (after a (at + 1) call.operation w) (after b ((at + 1) + slots a) call.operation w)
      (λ here. (
        start_kept a (at + 1) w call t trace holds.0 once.0 here (omega arith) kept.0,
        kept_same b ((at + 1) + slots a) (after a (at + 1) call.operation w) w (Start call ∷ t) (absent_kept b ((at + 1) + slots a) w call t (once.2 call.operation here) kept.1)
            (same_outside_above (after a (at + 1) call.operation w) w (at + 1) (slots a) ((at + 1) + slots a) (slots b) (after_outside a (at + 1) call.operation w) (omega arith)),
      ))
      (λ not_here. (
        kept_same a (at + 1) (after b ((at + 1) + slots a) call.operation w) w (Start call ∷ t) (absent_kept a (at + 1) w call t not_here kept.0)
            (same_outside_below (after b ((at + 1) + slots a) call.operation w) w ((at + 1) + slots a) (slots b) (at + 1) (slots a) (after_outside b ((at + 1) + slots a) call.operation w) (omega arith)),
        start_kept b ((at + 1) + slots a) w call t trace holds.1 once.1 (or_right (names a call.operation) (names b call.operation) named not_here) (omega arith) kept.1,
      ))
  start_kept_each (more a rest) at w call t trace holds once named fits kept =
      choose (λ v. KeptEach (more a rest) at v (Start call ∷ t)) (names a call.operation) (after a (at + 1) call.operation w) (after_some rest ((at + 1) + slots a) call.operation w)
      (λ here. (
        start_kept a (at + 1) w call t trace holds.0 once.0 here (omega arith) kept.0,
        each_same rest ((at + 1) + slots a) (after a (at + 1) call.operation w) w (Start call ∷ t) (absent_kept_each rest ((at + 1) + slots a) w call t (once.2 call.operation here) kept.1)
            (same_outside_above (after a (at + 1) call.operation w) w (at + 1) (slots a) ((at + 1) + slots a) (slots_of rest) (after_outside a (at + 1) call.operation w) (omega arith)),
      ))
      (λ not_here. (
        kept_same a (at + 1) (after_some rest ((at + 1) + slots a) call.operation w) w (Start call ∷ t) (absent_kept a (at + 1) w call t not_here kept.0)
            (same_outside_below (after_some rest ((at + 1) + slots a) call.operation w) w ((at + 1) + slots a) (slots_of rest) (at + 1) (slots a) (some_outside rest ((at + 1) + slots a) call.operation w) (omega arith)),
        start_kept_each rest ((at + 1) + slots a) w call t trace holds.1 once.1 (or_right (names a call.operation) (some_names rest call.operation) named not_here) (omega arith) kept.1,
      ))

  pub start_kept_turns : (ms : Paths) (at : ℕ) (w : List ℕ) (call : Call) (t : List Event) → IsTrace t → EachHolds ms t → EachOnce ms → some_names ms call.operation ≡ true → at + slots_of ms ≤ length w → KeptTurns ms at w t →
      KeptTurns ms at (after_turn ms at call.operation w) (Start call ∷ t)
  start_kept_turns (two a b) at w call t trace holds once named fits kept =
      let op = call.operation in
      let next = (at + 1) + slots a in
      let v0 = after b next op w in
      let v = if opens b next op w then set v0 at (get_or w at 0 - 1) else v0 in
      choose (λ u. KeptTurns (two a b) at u (Start call ∷ t)) (names a op) (after a (at + 1) op w) v
      (λ here. (
        after_outside a (at + 1) op w at (inl (omega arith)) ∙ omega (arith, kept.0, start_finishes a call t, absent_begins b call t (once.2 op here)),
        start_kept a (at + 1) w call t trace holds.0 once.0 here (omega arith) kept.1,
        kept_same b next (after a (at + 1) op w) w (Start call ∷ t) (absent_kept b next w call t (once.2 op here) kept.2)
            (same_outside_above (after a (at + 1) op w) w (at + 1) (slots a) next (slots b) (after_outside a (at + 1) op w) (omega arith)),
      ))
      (λ not_here.
      let in_b = or_right (names a op) (names b op) named not_here in
      let out = after_outside b next op w in
      let out' : Outside v0 w (at + 1) (slots a + slots b) = λ k o. out k (elim o [ inl below ↦ inl (omega arith) | inr above ↦ inr (omega arith) ]) in (
        slot_value (opens b next op w) v0 w at (get_or w at 0 - 1) (slots a + slots b) (after_length b next op w) (omega arith) out'
            ∙ fewer_left (opens b next op w) (ended a t) (started b t) (ended a (Start call ∷ t)) (started b (Start call ∷ t)) (get_or w at 0) kept.0
            (start_begins b next w call t trace holds.1 once.1 in_b kept.2) (start_finishes a call t),
        kept_same a (at + 1) v v0 (Start call ∷ t)
            (kept_same a (at + 1) v0 w (Start call ∷ t) (absent_kept a (at + 1) w call t not_here kept.1) (same_outside_below v0 w next (slots b) (at + 1) (slots a) out (omega arith)))
            (same_above (opens b next op w) v0 at (get_or w at 0 - 1) (at + 1) (slots a) (omega arith)),
        kept_same b next v v0 (Start call ∷ t)
            (start_kept b next w call t trace holds.1 once.1 in_b (omega arith) kept.2)
            (same_above (opens b next op w) v0 at (get_or w at 0 - 1) next (slots b) (omega arith)),
      ))
  start_kept_turns (more a rest) at w call t trace holds once named fits kept =
      let op = call.operation in
      let next = (at + 1) + slots a in
      let v0 = after_turn rest next op w in
      let v = if opens_first rest next op w then set v0 at (get_or w at 0 - 1) else v0 in
      choose (λ u. KeptTurns (more a rest) at u (Start call ∷ t)) (names a op) (after a (at + 1) op w) v
      (λ here. (
        after_outside a (at + 1) op w at (inl (omega arith)) ∙ omega (arith, kept.0, start_finishes a call t, absent_begins_first rest call t (once.2 op here)),
        start_kept a (at + 1) w call t trace holds.0 once.0 here (omega arith) kept.1,
        turns_same rest next (after a (at + 1) op w) w (Start call ∷ t) (absent_kept_turns rest next w call t (once.2 op here) kept.2)
            (same_outside_above (after a (at + 1) op w) w (at + 1) (slots a) next (slots_of rest) (after_outside a (at + 1) op w) (omega arith)),
      ))
      (λ not_here.
      let in_rest = or_right (names a op) (some_names rest op) named not_here in
      let out = turn_outside rest next op w in
      let out' : Outside v0 w (at + 1) (slots a + slots_of rest) = λ k o. out k (elim o [ inl below ↦ inl (omega arith) | inr above ↦ inr (omega arith) ]) in (
        slot_value (opens_first rest next op w) v0 w at (get_or w at 0 - 1) (slots a + slots_of rest) (turn_length rest next op w) (omega arith) out'
            ∙ fewer_left (opens_first rest next op w) (ended a t) (first_started rest t) (ended a (Start call ∷ t)) (first_started rest (Start call ∷ t)) (get_or w at 0) kept.0
            (start_begins_first rest next w call t trace holds.1 once.1 in_rest kept.2) (start_finishes a call t),
        kept_same a (at + 1) v v0 (Start call ∷ t)
            (kept_same a (at + 1) v0 w (Start call ∷ t) (absent_kept a (at + 1) w call t not_here kept.1) (same_outside_below v0 w next (slots_of rest) (at + 1) (slots a) out (omega arith)))
            (same_above (opens_first rest next op w) v0 at (get_or w at 0 - 1) (at + 1) (slots a) (omega arith)),
        turns_same rest next v v0 (Start call ∷ t)
            (start_kept_turns rest next w call t trace holds.1 once.1 in_rest (omega arith) kept.2)
            (same_above (opens_first rest next op w) v0 at (get_or w at 0 - 1) next (slots_of rest) (omega arith)),
      ))
