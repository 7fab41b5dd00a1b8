-- The counters admit a start exactly where the path allows it.
use Rattle.std.proofs.Common.{◌≡◌, ℕ, ◌+◌, ◌-◌, ◌≤◌, Bool, true, false, List, ◌∷◌, refl, arith, get_or}
use Rattle.std.specs.Prelude.{nat_lt, ◌&&◌, if◌then◌else◌}
use Rattle.std.proofs.lemmas.Bool.Decides.{nat_tests, Decides-and, Decides-like}
use Rattle.std.specs.Bool.{Decides}
use Rattle.path_tree.specs.Path.{Path, Paths, name, list, sequence, bound, burst, two, more}
use Rattle.path_tree.specs.Trace.{Call, Event, Start, IsTrace}
use Rattle.path_tree.specs.Counts.{started, ended, first_started}
use Rattle.path_tree.specs.Satisfies.{Holds, EachHolds, InTurn}
use Rattle.path_tree.specs.Names.{names, some_names, NamesOnce, EachOnce}
use Rattle.path_tree.proofs.StartLaws.{absent_begins, absent_begins_first, start_finishes}
use Rattle.path_count.specs.Program.{slots}
use Rattle.path_count.specs.Kept.{Kept, KeptEach, KeptTurns}
use Rattle.path_count.proofs.PathWalk.{opens, opens_first, admits, admits_some, admits_turn, choose, or_right}
use Rattle.path_count.proofs.Starting.{le_now, absent_holds, absent_each, absent_turn, start_begins, start_begins_first}

bound_room : (o : Bool) (b f b' f' n x : ℕ) → x ≡ b - f → f ≤ b → b - f ≤ n → b' ≡ b + (if o then 1 else 0) → f' ≡ f → Decides (if o then nat_lt x n else true) (b' - f' ≤ n)
bound_room true b f b' f' n x slot le in_bound up same = (λ h. grind (arith, nat_tests), λ h. grind (arith, nat_tests))
bound_room false b f b' f' n x slot le in_bound up same = (λ h. omega arith, λ h. refl)

turn_room : (o : Bool) (f b f' b' x : ℕ) → x ≡ f - b → b ≤ f → b' ≡ b + (if o then 1 else 0) → f' ≡ f → Decides (if o then nat_lt 0 x else true) (b' ≤ f')
turn_room true f b f' b' x slot in_turn up same = (λ h. grind (arith, nat_tests), λ h. grind (arith, nat_tests))
turn_room false f b f' b' x slot in_turn up same = (λ h. omega arith, λ h. refl)

mutual
  pub start_decides : (e : Path) (at : ℕ) (w : List ℕ) (call : Call) (t : List Event) → IsTrace t → Holds e t → NamesOnce e → names e call.operation ≡ true → Kept e at w t →
      Decides (admits e at call.operation w) (Holds e (Start call ∷ t))
  start_decides (name o) at w call t trace holds once named kept = (λ _. tt, λ _. refl)
  start_decides (list ms) at w call t trace holds once named kept = start_decides_each ms at w call t trace holds once named kept
  start_decides (sequence ms) at w call t trace holds once named kept = start_decides_turns ms at w call t trace holds.0 holds.1 once named kept
  start_decides (bound n e) at w call t trace holds once named kept =
      Decides-and (admits e (at + 1) call.operation w) (if opens e (at + 1) call.operation w then nat_lt (get_or w at 0) n else true)
      (start_decides e (at + 1) w call t trace holds.0 once named kept.1)
      (bound_room (opens e (at + 1) call.operation w) (started e t) (ended e t) (started e (Start call ∷ t)) (ended e (Start call ∷ t)) n (get_or w at 0) kept.0 (le_now e t trace holds.0) holds.1
      (start_begins e (at + 1) w call t trace holds.0 once named kept.1) (start_finishes e call t))
  start_decides (burst e) at w call t trace holds once named kept = start_decides e (at + 1) w call t trace holds once named kept.1

  pub start_decides_each : (ms : Paths) (at : ℕ) (w : List ℕ) (call : Call) (t : List Event) → IsTrace t → EachHolds ms t → EachOnce ms → some_names ms call.operation ≡ true → KeptEach ms at w t →
      Decides (admits_some ms at call.operation w) (EachHolds ms (Start call ∷ t))
  start_decides_each (two a b) at w call t trace holds once named kept =
      choose (λ r. Decides r (EachHolds (two a b) (Start call ∷ t))) (names a call.operation) (admits a (at + 1) call.operation w) (admits b ((at + 1) + slots a) call.operation w)
      (λ here. Decides-like (admits a (at + 1) call.operation w) (λ h. (h, absent_holds b call t (once.2 call.operation here) holds.1)) (λ h. h.0)
      (start_decides a (at + 1) w call t trace holds.0 once.0 here kept.0))
      (λ not_here. Decides-like (admits b ((at + 1) + slots a) call.operation w) (λ h. (absent_holds a call t not_here holds.0, h)) (λ h. h.1)
      (start_decides b ((at + 1) + slots a) w call t trace holds.1 once.1 (or_right (names a call.operation) (names b call.operation) named not_here) kept.1))
  start_decides_each (more a rest) at w call t trace holds once named kept =
      choose (λ r. Decides r (EachHolds (more a rest) (Start call ∷ t))) (names a call.operation) (admits a (at + 1) call.operation w) (admits_some rest ((at + 1) + slots a) call.operation w)
      (λ here. Decides-like (admits a (at + 1) call.operation w) (λ h. (h, absent_each rest call t (once.2 call.operation here) holds.1)) (λ h. h.0)
      (start_decides a (at + 1) w call t trace holds.0 once.0 here kept.0))
      (λ not_here. Decides-like (admits_some rest ((at + 1) + slots a) call.operation w) (λ h. (absent_holds a call t not_here holds.0, h)) (λ h. h.1)
      (start_decides_each rest ((at + 1) + slots a) w call t trace holds.1 once.1 (or_right (names a call.operation) (some_names rest call.operation) named not_here) kept.1))

  pub start_decides_turns : (ms : Paths) (at : ℕ) (w : List ℕ) (call : Call) (t : List Event) → IsTrace t → EachHolds ms t → InTurn ms t → EachOnce ms → some_names ms call.operation ≡ true → KeptTurns ms at w t →
      Decides (admits_turn ms at call.operation w) (EachHolds ms (Start call ∷ t) × InTurn ms (Start call ∷ t))
  start_decides_turns (two a b) at w call t trace holds turn once named kept =
      let op = call.operation in
      let next = (at + 1) + slots a in
      choose (λ r. Decides r (EachHolds (two a b) (Start call ∷ t) × InTurn (two a b) (Start call ∷ t))) (names a op) (admits a (at + 1) op w) (admits b next op w && (if opens b next op w then nat_lt 0 (get_or w at 0) else true))
      (λ here. Decides-like (admits a (at + 1) op w)
      (λ h. ((h, absent_holds b call t (once.2 op here) holds.1), omega (arith, turn, start_finishes a call t, absent_begins b call t (once.2 op here)))) (λ h. h.0.0)
      (start_decides a (at + 1) w call t trace holds.0 once.0 here kept.1))
      (λ not_here. let in_b = or_right (names a op) (names b op) named not_here in
      Decides-like (admits b next op w && (if opens b next op w then nat_lt 0 (get_or w at 0) else true))
      (λ h. ((absent_holds a call t not_here holds.0, h.0), h.1)) (λ h. (h.0.1, h.1))
      (Decides-and (admits b next op w) (if opens b next op w then nat_lt 0 (get_or w at 0) else true)
      (start_decides b next w call t trace holds.1 once.1 in_b kept.2)
      (turn_room (opens b next op w) (ended a t) (started b t) (ended a (Start call ∷ t)) (started b (Start call ∷ t)) (get_or w at 0) kept.0 turn
      (start_begins b next w call t trace holds.1 once.1 in_b kept.2) (start_finishes a call t))))
  start_decides_turns (more a rest) at w call t trace holds turn once named kept =
      let op = call.operation in
      let next = (at + 1) + slots a in
      choose (λ r. Decides r (EachHolds (more a rest) (Start call ∷ t) × InTurn (more a rest) (Start call ∷ t))) (names a op) (admits a (at + 1) op w) (admits_turn rest next op w && (if opens_first rest next op w then nat_lt 0 (get_or w at 0) else true))
      (λ here. Decides-like (admits a (at + 1) op w)
      (λ h. ((h, absent_each rest call t (once.2 op here) holds.1), (omega (arith, turn.0, start_finishes a call t, absent_begins_first rest call t (once.2 op here)), absent_turn rest call t (once.2 op here) turn.1))) (λ h. h.0.0)
      (start_decides a (at + 1) w call t trace holds.0 once.0 here kept.1))
      (λ not_here. let in_rest = or_right (names a op) (some_names rest op) named not_here in
      Decides-like (admits_turn rest next op w && (if opens_first rest next op w then nat_lt 0 (get_or w at 0) else true))
      (λ h. ((absent_holds a call t not_here holds.0, h.0.0), (h.1, h.0.1))) (λ h. ((h.0.1, h.1.1), h.1.0))
      (Decides-and (admits_turn rest next op w) (if opens_first rest next op w then nat_lt 0 (get_or w at 0) else true)
      (start_decides_turns rest next w call t trace holds.1 turn.1 once.1 in_rest kept.2)
      (turn_room (opens_first rest next op w) (ended a t) (first_started rest t) (ended a (Start call ∷ t)) (first_started rest (Start call ∷ t)) (get_or w at 0) kept.0 turn.0
      (start_begins_first rest next w call t trace holds.1 once.1 in_rest kept.2) (start_finishes a call t))))
