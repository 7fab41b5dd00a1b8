-- Separated operations never meet.
use Rattle.std.proofs.Common.{◌≡◌, ◌≢◌, ℕ, ◌+◌, ◌≤◌, inl, inr, Bool, true, List, refl, sym, ◌∙◌, subst, arith}
use Rattle.std.specs.Prelude.{nat_lt, if◌then◌else◌}
use Rattle.std.proofs.lemmas.Bool.{eqb-true, cases_order}
use Rattle.std.proofs.lemmas.Bool.Decides.{nat_tests}
use Rattle.path_tree.specs.Path.{Path, Paths, name, list, sequence, bound, burst, two, more}
use Rattle.path_tree.specs.Names.{names, some_names}
use Rattle.path_tree.specs.Trace.{Call, Event, IsTrace, IsAmong, running_calls}
use Rattle.path_tree.specs.Counts.{active}
use Rattle.path_tree.specs.Satisfies.{Satisfies}
use Rattle.path_tree.specs.Laws.{Counted, EachCounted, sum_active}
use Rattle.path_tree.proofs.CountLaws.{counted_in}
use Rattle.decl_core.specs.Separates.{IsNodeAt, itself, in_list, in_sequence, in_bound, in_burst, IsNodeAmong, in_last_but_one, in_last, in_first, in_rest, StandApart, MeetOpenly, SomeMeetOpenly, IsSeparated}
use Rattle.decl_core.proofs.Openly.{or_true}
use Rattle.decl_core.proofs.Running.{at_least_one, at_least_two, active_calls}

-- what is counted of a tree is counted of each node of it
mutual
  pub counted_at : {e : Path} {k : ℕ} {node : Path} (t : List Event) → IsNodeAt e k node → Counted e t → Counted node t
  counted_at t itself h = h
  counted_at t (in_list r) h = counted_among t r h.0
  counted_at t (in_sequence r) h = counted_among t r h.0
  counted_at t (in_bound r) h = counted_at t r h.0
  counted_at t (in_burst r) h = counted_at t r h.0

  pub counted_among : {ms : Paths} {k : ℕ} {node : Path} (t : List Event) → IsNodeAmong ms k node → EachCounted ms t → Counted node t
  counted_among t (in_last_but_one r) h = counted_at t r h.0
  counted_among t (in_last r) h = counted_at t r h.1
  counted_among t (in_first r) h = counted_at t r h.0
  counted_among t (in_rest r) h = counted_among t r h.1

burst_active : (n : ℕ) → 1 ≤ n → 1 ≤ (if nat_lt 0 n then 1 else 0)
burst_active n h = grind (arith, nat_tests)

-- where an operation runs, each node that names it is active
mutual
  pub named_active : (e : Path) (op : ℕ) (t : List Event) → Counted e t → names e op ≡ true → 1 ≤ active (name op) t → 1 ≤ active e t
  named_active (name o) op t h named runs = subst (λ x. 1 ≤ active (name x) t) (eqb-true op o named) runs
  named_active (list ms) op t h named runs = omega (arith, some_active ms op t h.0 named runs, h.2)
  named_active (sequence ms) op t h named runs = omega (arith, some_active ms op t h.0 named runs, h.2)
  named_active (bound n e) op t h named runs = named_active e op t h.0 named runs
  named_active (burst e) op t h named runs = omega (arith, burst_active (active e t) (named_active e op t h.0 named runs), h.2)

  pub some_active : (ms : Paths) (op : ℕ) (t : List Event) → EachCounted ms t → some_names ms op ≡ true → 1 ≤ active (name op) t → 1 ≤ sum_active ms t
  some_active (two a b) op t h named runs = elim (or_true (names a op) (names b op) named) [
    | inl here ↦ omega (arith, named_active a op t h.0 here runs)
    | inr there ↦ omega (arith, named_active b op t h.1 there runs)
  ]
  some_active (more a rest) op t h named runs = elim (or_true (names a op) (some_names rest op) named) [
    | inl here ↦ omega (arith, named_active a op t h.0 here runs)
    | inr there ↦ omega (arith, some_active rest op t h.1 there runs)
  ]

-- calls of both operations run, and two of them where they are one
pub record BothRun (a b : ℕ) (t : List Event) : Type 0 where
  pub first : 1 ≤ active (name a) t
  pub second : 1 ≤ active (name b) t
  pub twice : a ≡ b → 2 ≤ active (name a) t

-- where two names stand apart and run, both sides are active
pub apart_active : (f g : ℕ → Bool) (m n a b : ℕ) (t : List Event) → BothRun a b t →
    ((op : ℕ) → f op ≡ true → 1 ≤ active (name op) t → 1 ≤ m) → ((op : ℕ) → g op ≡ true → 1 ≤ active (name op) t → 1 ≤ n) →
    StandApart f g a b → 2 ≤ m + n
apart_active f g m n a b t runs left right h = elim h [
  | inl one ↦ omega (arith, left a one.0 runs.first, right b one.1 runs.second)
  | inr other ↦ omega (arith, left b other.0 runs.second, right a other.1 runs.first)
]

-- where both run, a node in which they meet openly is active twice
mutual
  pub active_twice : (e : Path) (a b : ℕ) (t : List Event) → Counted e t → BothRun a b t → MeetOpenly e a b → 2 ≤ active e t
  active_twice (name op) a b t h runs meet = subst (λ x. 2 ≤ active (name x) t) meet.0 (runs.twice (meet.0 ∙ sym meet.1))
  active_twice (list ms) a b t h runs meet = omega (arith, sum_twice ms a b t h.0 runs meet, h.2)
  active_twice (sequence ms) a b t h runs meet = omega (arith, sum_twice ms a b t h.0 runs meet, h.2)
  active_twice (bound n e) a b t h runs meet = active_twice e a b t h.0 runs meet
  active_twice (burst e) a b t h runs meet = absurd meet

  pub sum_twice : (ms : Paths) (a b : ℕ) (t : List Event) → EachCounted ms t → BothRun a b t → SomeMeetOpenly ms a b → 2 ≤ sum_active ms t
  sum_twice (two e f) a b t h runs meet = elim meet [
    | inl here ↦ omega (arith, active_twice e a b t h.0 runs here)
    | inr other ↦ elim other [
      | inl there ↦ omega (arith, active_twice f a b t h.1 runs there)
      | inr apart ↦ apart_active (names e) (names f) (active e t) (active f t) a b t runs (λ op. named_active e op t h.0) (λ op. named_active f op t h.1) apart
    ]
  ]
  sum_twice (more e rest) a b t h runs meet = elim meet [
    | inl here ↦ omega (arith, active_twice e a b t h.0 runs here)
    | inr other ↦ elim other [
      | inl there ↦ omega (arith, sum_twice rest a b t h.1 runs there)
      | inr apart ↦ apart_active (names e) (some_names rest) (active e t) (sum_active rest t) a b t runs (λ op. named_active e op t h.0) (λ op. some_active rest op t h.1) apart
    ]
  ]

-- so separated operations never both run
pub not_both : (e : Path) (a b : ℕ) (t : List Event) → Counted e t → IsSeparated e a b → BothRun a b t → ⊥
not_both e a b t h separated runs =
    let inner : Counted (bound 1 separated.1.0) t = counted_at t separated.1.1 h in
    let twice : 2 ≤ active separated.1.0 t = active_twice separated.1.0 a b t inner.0 runs separated.1.2 in
    let once : active separated.1.0 t ≤ 1 = inner.3 in
    omega arith

-- a call runs, so its operation is active
one_active : (c : Call) (t : List Event) → IsTrace t → IsAmong c (running_calls t) → 1 ≤ active (name c.operation) t
one_active c t trace h = omega (arith, active_calls c.operation t trace, at_least_one c.operation c (running_calls t) h refl)

-- two calls of one operation run, so it is active twice
two_active : (c d : Call) (t : List Event) → IsTrace t → IsAmong c (running_calls t) → IsAmong d (running_calls t) → c.number ≢ d.number →
    c.operation ≡ d.operation → 2 ≤ active (name c.operation) t
two_active c d t trace h k differ same = elim (at_least_two c.operation c d (running_calls t) h k refl (sym same)) [
  | inl one ↦ absurd (differ one)
  | inr both ↦ omega (arith, active_calls c.operation t trace)
]

both_run : (c d : Call) (t : List Event) → IsTrace t → IsAmong c (running_calls t) → IsAmong d (running_calls t) → c.number ≢ d.number →
    BothRun c.operation d.operation t
both_run c d t trace h k differ = record { first = one_active c t trace h; second = one_active d t trace k; twice = two_active c d t trace h k differ }

same_unless : (m n : ℕ) → (m ≢ n → ⊥) → m ≡ n
same_unless m n h = elim (cases_order m n) [
  | inl same ↦ same
  | inr other ↦ absurd (h (elim other [ inl less ↦ omega arith | inr greater ↦ omega arith ]))
]

pub separated_never_meet : (e : Path) (t : List Event) (c d : Call) → IsTrace t → Satisfies e t →
    IsSeparated e c.operation d.operation → IsAmong c (running_calls t) → IsAmong d (running_calls t) → c.number ≡ d.number
separated_never_meet e t c d trace satisfied separated h k =
    same_unless c.number d.number (λ differ. not_both e c.operation d.operation t (counted_in e t trace satisfied) separated (both_run c d t trace h k differ))
