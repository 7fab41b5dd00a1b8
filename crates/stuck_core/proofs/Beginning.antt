-- A start begins an activation exactly where the counters say so.
use Rattle.std.proofs.Common.{◌≡◌, ℕ, ◌+◌, inl, inr, Bool, true, false, List, ◌∷◌, refl, sym, ap, arith, ◌∙◌, get_or}
use Rattle.std.specs.Prelude.{◌==◌, nat_lt, ◌&&◌, ◌||◌, if◌then◌else◌}
use Rattle.std.proofs.lemmas.Bool.Decides.{nat_tests}
use Rattle.path_tree.specs.Path.{Path, Paths, name, list, sequence, bound, burst, two, more}
use Rattle.path_tree.specs.Trace.{Call, Event, Start, IsTrace}
use Rattle.path_tree.specs.Counts.{started, first_started}
use Rattle.path_tree.specs.Satisfies.{Holds, EachHolds}
use Rattle.path_tree.specs.Names.{names, some_names, NamesOnce, EachOnce}
use Rattle.path_tree.proofs.StartLaws.{absent_begins, absent_begins_first, either_false}
use Rattle.path_count.specs.Program.{slots}
use Rattle.path_count.specs.Kept.{Kept, KeptTurns}
use Rattle.path_count.proofs.PathWalk.{opens, opens_some, opens_first, choose, or_right}
use Rattle.path_count.proofs.Starting.{start_begins, start_begins_first}
use Rattle.path_count.proofs.Drains.{either}
use Rattle.stuck_core.specs.Begins.{begins, some_begins, first_begins}

left_false : (x y : Bool) → x ≡ false → x && y ≡ false
left_false x y h = cc

both_none : (x y : Bool) → x ≡ false → y ≡ false → x || y ≡ false
both_none x y h k = cc

-- what a tree does not name does not begin it
mutual
  pub absent : (e : Path) (at op : ℕ) (w : List ℕ) → names e op ≡ false → begins e at op w ≡ false
  absent (name o) at op w h = h
  absent (list ms) at op w h = absent_some ms at op w h
  absent (sequence ms) at op w h = absent_first ms at op w h
  absent (bound n e) at op w h = absent e (at + 1) op w h
  absent (burst e) at op w h = left_false (begins e (at + 1) op w) (get_or w at 0 == 0) (absent e (at + 1) op w h)

  absent_some : (ms : Paths) (at op : ℕ) (w : List ℕ) → some_names ms op ≡ false → some_begins ms at op w ≡ false
  absent_some (two a b) at op w h = let no = either_false (names a op) (names b op) h in
      both_none (begins a (at + 1) op w) (begins b ((at + 1) + slots a) op w) (absent a (at + 1) op w no.0) (absent b ((at + 1) + slots a) op w no.1)
  absent_some (more a rest) at op w h = let no = either_false (names a op) (some_names rest op) h in
      both_none (begins a (at + 1) op w) (some_begins rest ((at + 1) + slots a) op w) (absent a (at + 1) op w no.0) (absent_some rest ((at + 1) + slots a) op w no.1)

  pub absent_first : (ms : Paths) (at op : ℕ) (w : List ℕ) → some_names ms op ≡ false → first_begins ms at op w ≡ false
  absent_first (two a b) at op w h = absent a (at + 1) op w (either_false (names a op) (names b op) h).0
  absent_first (more a rest) at op w h = absent a (at + 1) op w (either_false (names a op) (some_names rest op) h).0

burst_same : (b : Bool) (x : ℕ) → b && (x == 0) ≡ (if b then (if nat_lt 0 x then false else true) else false)
burst_same true x = grind (arith, nat_tests)
burst_same false x = refl

or_none : (x y : Bool) → y ≡ false → x || y ≡ x
or_none true y h = refl
or_none false y h = h

or_other : (x y : Bool) → x ≡ false → x || y ≡ y
or_other true y h = absurd (cc)
or_other false y h = refl

-- of an operation that it names this is what path_count says
mutual
  same : (e : Path) (at op : ℕ) (w : List ℕ) → NamesOnce e → names e op ≡ true → begins e at op w ≡ opens e at op w
  same (name o) at op w once h = h
  same (list ms) at op w once h = same_some ms at op w once h
  same (sequence ms) at op w once h = same_first ms at op w once
  same (bound n e) at op w once h = same e (at + 1) op w once h
  same (burst e) at op w once h = ap (λ b. b && (get_or w at 0 == 0)) (same e (at + 1) op w once h) ∙ burst_same (opens e (at + 1) op w) (get_or w at 0)

  same_some : (ms : Paths) (at op : ℕ) (w : List ℕ) → EachOnce ms → some_names ms op ≡ true → some_begins ms at op w ≡ opens_some ms at op w
  same_some (two a b) at op w once h =
      let next = (at + 1) + slots a in
      choose (λ x. begins a (at + 1) op w || begins b next op w ≡ x) (names a op) (opens a (at + 1) op w) (opens b next op w)
      (λ here. or_none (begins a (at + 1) op w) (begins b next op w) (absent b next op w (once.2 op here)) ∙ same a (at + 1) op w once.0 here)
      (λ not_here. or_other (begins a (at + 1) op w) (begins b next op w) (absent a (at + 1) op w not_here) ∙ same b next op w once.1 (or_right (names a op) (names b op) h not_here))
  same_some (more a rest) at op w once h =
      let next = (at + 1) + slots a in
      choose (λ x. begins a (at + 1) op w || some_begins rest next op w ≡ x) (names a op) (opens a (at + 1) op w) (opens_some rest next op w)
      (λ here. or_none (begins a (at + 1) op w) (some_begins rest next op w) (absent_some rest next op w (once.2 op here)) ∙ same a (at + 1) op w once.0 here)
      (λ not_here. or_other (begins a (at + 1) op w) (some_begins rest next op w) (absent a (at + 1) op w not_here) ∙ same_some rest next op w once.1 (or_right (names a op) (some_names rest op) h not_here))

  same_first : (ms : Paths) (at op : ℕ) (w : List ℕ) → EachOnce ms → first_begins ms at op w ≡ opens_first ms at op w
  same_first (two a b) at op w once = choose (λ x. begins a (at + 1) op w ≡ x) (names a op) (opens a (at + 1) op w) false
      (λ here. same a (at + 1) op w once.0 here) (λ not_here. absent a (at + 1) op w not_here)
  same_first (more a rest) at op w once = choose (λ x. begins a (at + 1) op w ≡ x) (names a op) (opens a (at + 1) op w) false
      (λ here. same a (at + 1) op w once.0 here) (λ not_here. absent a (at + 1) op w not_here)

none_more : (s s' : ℕ) (b : Bool) → s' ≡ s → b ≡ false → s' ≡ s + (if b then 1 else 0)
none_more s s' true h k = absurd (cc)
none_more s s' false h k = omega (arith, h)

-- what has begun after the start
pub begun : (e : Path) (at : ℕ) (w : List ℕ) (call : Call) (t : List Event) → IsTrace t → Holds e t → NamesOnce e → Kept e at w t →
    started e (Start call ∷ t) ≡ started e t + (if begins e at call.operation w then 1 else 0)
begun e at w call t trace holds once kept = elim (either (names e call.operation)) [
  | inl here ↦ start_begins e at w call t trace holds once here kept ∙ ap (λ b. started e t + (if b then 1 else 0)) (sym (same e at call.operation w once here))
  | inr not_here ↦ none_more (started e t) (started e (Start call ∷ t)) (begins e at call.operation w) (absent_begins e call t not_here) (absent e at call.operation w not_here)
]

pub begun_first : (ms : Paths) (at : ℕ) (w : List ℕ) (call : Call) (t : List Event) → IsTrace t → EachHolds ms t → EachOnce ms → KeptTurns ms at w t →
    first_started ms (Start call ∷ t) ≡ first_started ms t + (if first_begins ms at call.operation w then 1 else 0)
begun_first ms at w call t trace holds once kept = elim (either (some_names ms call.operation)) [
  | inl here ↦ start_begins_first ms at w call t trace holds once here kept ∙ ap (λ b. first_started ms t + (if b then 1 else 0)) (sym (same_first ms at call.operation w once))
  | inr not_here ↦ none_more (first_started ms t) (first_started ms (Start call ∷ t)) (first_begins ms at call.operation w) (absent_begins_first ms call t not_here) (absent_first ms at call.operation w not_here)
]
