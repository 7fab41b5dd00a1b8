-- Reasons are told in the order of paths and nodes, each node once.
use Rattle.std.proofs.Common.{◌≡◌, ℕ, ◌+◌, ◌<◌, ◌≤◌, inl, inr, Bool, true, false, List, [], ◌∷◌, ◌++◌, refl, sym, ap, subst, arith, ◌∙◌, get_or}
use Rattle.std.specs.Prelude.{◌==◌, ◌&&◌, ◌||◌}
use Rattle.path_tree.specs.Path.{Path, Paths, name, list, sequence, bound, burst, two, more}
use Rattle.path_tree.specs.Names.{names, some_names, NamesOnce, EachOnce}
use Rattle.path_tree.specs.Limits.{node_count, count_of_all}
use Rattle.path_count.specs.Program.{slots}
use Rattle.path_count.specs.Object.{AllOnce}
use Rattle.path_count.proofs.Drains.{either}
use Rattle.stuck_core.specs.declared.reason.Lack.{Lack}
use Rattle.stuck_core.specs.declared.reason.Lack.TheVariants as lacks
use Rattle.stuck_core.specs.Begins.{begins, first_begins}
use Rattle.stuck_core.specs.Lacks.{Why}
use Rattle.stuck_core.specs.Reasons.{one_why, is_full, is_used_up, whys, each_whys, turn_whys, all_whys}
use Rattle.stuck_core.specs.Tells.{IsBefore, AreInOrder}
use Rattle.stuck_core.proofs.Beginning.{absent, absent_first}

-- reasons of this path, at nodes from a number on, below another one
abbrev AreIn : List Why → ℕ → ℕ → ℕ → Type 0
AreIn [] path lo hi = Unit {0}
AreIn (a ∷ all) path lo hi = ((a.path ≡ path) × (lo ≤ a.node) × (a.node < hi)) × AreIn all path lo hi

abbrev Placed : List Why → ℕ → ℕ → ℕ → Type 0
Placed all path lo hi = AreInOrder all × AreIn all path lo hi

in_wider : (all : List Why) (path lo hi lo' hi' : ℕ) → lo' ≤ lo → hi ≤ hi' → AreIn all path lo hi → AreIn all path lo' hi'
in_wider [] path lo hi lo' hi' low high h = tt
in_wider (a ∷ all) path lo hi lo' hi' low high h = ((h.0.0, omega (arith, h.0.1, low), omega (arith, h.0.2, high)), in_wider all path lo hi lo' hi' low high h.1)

placed_wider : (all : List Why) (path lo hi lo' hi' : ℕ) → lo' ≤ lo → hi ≤ hi' → Placed all path lo hi → Placed all path lo' hi'
placed_wider all path lo hi lo' hi' low high h = (h.0, in_wider all path lo hi lo' hi' low high h.1)

in_both : (xs ys : List Why) (path lo hi : ℕ) → AreIn xs path lo hi → AreIn ys path lo hi → AreIn (xs ++ ys) path lo hi
in_both [] ys path lo hi h k = k
in_both (a ∷ xs) ys path lo hi h k = (h.0, in_both xs ys path lo hi h.1 k)

before_both : (a : Why) (xs ys : List Why) → IsBefore a xs → IsBefore a ys → IsBefore a (xs ++ ys)
before_both a [] ys h k = k
before_both a (b ∷ xs) ys h k = (h.0, before_both a xs ys h.1 k)

before_in : (a : Why) (ys : List Why) (path lo hi : ℕ) → a.path ≡ path → a.node < lo → AreIn ys path lo hi → IsBefore a ys
before_in a [] path lo hi is below h = tt
before_in a (b ∷ ys) path lo hi is below h = (inr (is ∙ sym h.0.0, omega (arith, below, h.0.1)), before_in a ys path lo hi is below h.1)

order_both : (xs ys : List Why) (path lo mid hi : ℕ) → Placed xs path lo mid → Placed ys path mid hi → AreInOrder (xs ++ ys)
order_both [] ys path lo mid hi h k = k.0
order_both (a ∷ xs) ys path lo mid hi h k =
    (before_both a xs ys h.0.0 (before_in a ys path mid hi h.1.0.0 h.1.0.2 k.1), order_both xs ys path lo mid hi (h.0.1, h.1.1) k)

placed_both : (xs ys : List Why) (path lo mid hi : ℕ) → lo ≤ mid → mid ≤ hi → Placed xs path lo mid → Placed ys path mid hi → Placed (xs ++ ys) path lo hi
placed_both xs ys path lo mid hi low high h k =
    (order_both xs ys path lo mid hi h k, in_both xs ys path lo hi (in_wider xs path lo mid lo hi (omega arith) high h.1) (in_wider ys path mid hi lo hi low (omega arith) k.1))

-- ---- one node has one reason ----

one_placed : (is : Bool) (path k : ℕ) (lack : Lack) (e : Path) → Placed (one_why is path k lack e) path k (k + 1)
one_placed true path k lack e = ((tt, tt), ((refl, omega arith, omega arith), tt))
one_placed false path k lack e = (tt, tt)

not_one : (is : Bool) (path k : ℕ) (lack : Lack) (e : Path) → is ≡ false → one_why is path k lack e ≡ []
not_one true path k lack e h = absurd (cc)
not_one false path k lack e h = refl

not_used : (b : Bool) (x : ℕ) → b ≡ false → b && (x == 0) ≡ false
not_used true x h = absurd (cc)
not_used false x h = refl

right_false : (x y : Bool) → x || y ≡ false → y ≡ false
right_false true y h = absurd (cc)
right_false false y h = h

-- what none of the members names lacks no turn
none_named : (ms : Paths) (path at k j op : ℕ) (w : List ℕ) → some_names ms op ≡ false → turn_whys ms path at k j op w ≡ []
none_named (two a b) path at k j op w h =
    let next = (at + 1) + slots a in
    not_one (is_used_up (begins b next op w) at w) path k (lacks.Turn j) a (not_used (begins b next op w) (get_or w at 0) (absent b next op w (right_false (names a op) (names b op) h)))
none_named (more a rest) path at k j op w h =
    let next = (at + 1) + slots a in
    let no = right_false (names a op) (some_names rest op) h in
    ap (λ x. x ++ turn_whys rest path next k (j + 1) op w)
    (not_one (is_used_up (first_begins rest next op w) at w) path k (lacks.Turn j) a (not_used (first_begins rest next op w) (get_or w at 0) (absent_first rest next op w no)))
    ∙ none_named rest path next k (j + 1) op w no

-- what begins a tree is named there
is_named : (e : Path) (at op : ℕ) (w : List ℕ) → begins e at op w ≡ true → names e op ≡ true
is_named e at op w h = elim (either (names e op)) [ inl here ↦ here | inr not_here ↦ absurd (no (begins e at op w) h (absent e at op w not_here)) ]
  where
    no : (b : Bool) → b ≡ true → b ≡ false → ⊥
    no b h k = absurd (cc)

-- where the first member begins, no later one does
first_alone : (ms : Paths) (path at k j op : ℕ) (w : List ℕ) → EachOnce ms → first_begins ms at op w ≡ true → turn_whys ms path at k j op w ≡ []
first_alone (two a b) path at k j op w once h =
    let next = (at + 1) + slots a in
    not_one (is_used_up (begins b next op w) at w) path k (lacks.Turn j) a
    (not_used (begins b next op w) (get_or w at 0) (absent b next op w (once.2 op (is_named a (at + 1) op w h))))
first_alone (more a rest) path at k j op w once h =
    let next = (at + 1) + slots a in
    let no = once.2 op (is_named a (at + 1) op w h) in
    ap (λ x. x ++ turn_whys rest path next k (j + 1) op w)
    (not_one (is_used_up (first_begins rest next op w) at w) path k (lacks.Turn j) a (not_used (first_begins rest next op w) (get_or w at 0) (absent_first rest next op w no)))
    ∙ none_named rest path next k (j + 1) op w no

append_none : (xs ys : List Why) → ys ≡ [] → xs ++ ys ≡ xs
append_none [] ys h = h
append_none (x ∷ xs) ys h = ap (λ all. x ∷ all) (append_none xs ys h)

turns_placed : (ms : Paths) (path at k j op : ℕ) (w : List ℕ) → EachOnce ms → Placed (turn_whys ms path at k j op w) path k (k + 1)
turns_placed (two a b) path at k j op w once = one_placed (is_used_up (begins b ((at + 1) + slots a) op w) at w) path k (lacks.Turn j) a
turns_placed (more a rest) path at k j op w once =
    let next = (at + 1) + slots a in
    let here = one_why (is_used_up (first_begins rest next op w) at w) path k (lacks.Turn j) a in
    let later = turn_whys rest path next k (j + 1) op w in
    elim (either (first_begins rest next op w)) [
      | inl begins_there ↦ subst (λ all. Placed all path k (k + 1)) (sym (append_none here later (first_alone rest path next k (j + 1) op w once.1 begins_there)))
          (one_placed (is_used_up (first_begins rest next op w) at w) path k (lacks.Turn j) a)
      | inr not_there ↦ subst (λ all. Placed (all ++ later) path k (k + 1)) (sym (not_one (is_used_up (first_begins rest next op w) at w) path k (lacks.Turn j) a (not_used (first_begins rest next op w) (get_or w at 0) not_there)))
          (turns_placed rest path next k (j + 1) op w once.1)
    ]

-- ---- a path ----

mutual
  placed : (e : Path) (path at k op : ℕ) (w : List ℕ) → NamesOnce e → Placed (whys e path at k op w) path k (k + node_count e)
  placed (name o) path at k op w once = (tt, tt)
  placed (list ms) path at k op w once = placed_wider (each_whys ms path at (k + 1) op w) path (k + 1) ((k + 1) + count_of_all ms) k (k + (1 + count_of_all ms)) (omega arith) (omega arith)
      (placed_each ms path at (k + 1) op w once)
  placed (sequence ms) path at k op w once =
      placed_wider (turn_whys ms path at k 1 op w ++ each_whys ms path at (k + 1) op w) path k ((k + 1) + count_of_all ms) k (k + (1 + count_of_all ms)) (omega arith) (omega arith)
      (placed_both (turn_whys ms path at k 1 op w) (each_whys ms path at (k + 1) op w) path k (k + 1) ((k + 1) + count_of_all ms) (omega arith) (omega arith)
      (turns_placed ms path at k 1 op w once) (placed_each ms path at (k + 1) op w once))
  placed (bound n e) path at k op w once =
      placed_wider (one_why (is_full n e at op w) path k lacks.Full e ++ whys e path (at + 1) (k + 1) op w) path k ((k + 1) + node_count e) k (k + (1 + node_count e)) (omega arith) (omega arith)
      (placed_both (one_why (is_full n e at op w) path k lacks.Full e) (whys e path (at + 1) (k + 1) op w) path k (k + 1) ((k + 1) + node_count e) (omega arith) (omega arith)
      (one_placed (is_full n e at op w) path k lacks.Full e) (placed e path (at + 1) (k + 1) op w once))
  placed (burst e) path at k op w once = placed_wider (whys e path (at + 1) (k + 1) op w) path (k + 1) ((k + 1) + node_count e) k (k + (1 + node_count e)) (omega arith) (omega arith)
      (placed e path (at + 1) (k + 1) op w once)

  placed_each : (ms : Paths) (path at k op : ℕ) (w : List ℕ) → EachOnce ms → Placed (each_whys ms path at k op w) path k (k + count_of_all ms)
  placed_each (two a b) path at k op w once =
      let next = (at + 1) + slots a in
      placed_wider (whys a path (at + 1) k op w ++ whys b path next (k + node_count a) op w) path k ((k + node_count a) + node_count b) k (k + (node_count a + node_count b)) (omega arith) (omega arith)
      (placed_both (whys a path (at + 1) k op w) (whys b path next (k + node_count a) op w) path k (k + node_count a) ((k + node_count a) + node_count b) (omega arith) (omega arith)
      (placed a path (at + 1) k op w once.0) (placed b path next (k + node_count a) op w once.1))
  placed_each (more a rest) path at k op w once =
      let next = (at + 1) + slots a in
      placed_wider (whys a path (at + 1) k op w ++ each_whys rest path next (k + node_count a) op w) path k ((k + node_count a) + count_of_all rest) k (k + (node_count a + count_of_all rest)) (omega arith) (omega arith)
      (placed_both (whys a path (at + 1) k op w) (each_whys rest path next (k + node_count a) op w) path k (k + node_count a) ((k + node_count a) + count_of_all rest) (omega arith) (omega arith)
      (placed a path (at + 1) k op w once.0) (placed_each rest path next (k + node_count a) op w once.1))

-- ---- all paths ----

-- reasons of paths from this number on
abbrev AreFrom : List Why → ℕ → Type 0
AreFrom [] i = Unit {0}
AreFrom (a ∷ all) i = (i ≤ a.path) × AreFrom all i

from_both : (xs ys : List Why) (i : ℕ) → AreFrom xs i → AreFrom ys i → AreFrom (xs ++ ys) i
from_both [] ys i h k = k
from_both (a ∷ xs) ys i h k = (h.0, from_both xs ys i h.1 k)

from_lower : (all : List Why) (i j : ℕ) → i ≤ j → AreFrom all j → AreFrom all i
from_lower [] i j le h = tt
from_lower (a ∷ all) i j le h = (omega (arith, le, h.0), from_lower all i j le h.1)

from_in : (all : List Why) (path lo hi : ℕ) → AreIn all path lo hi → AreFrom all path
from_in [] path lo hi h = tt
from_in (a ∷ all) path lo hi h = (omega (arith, h.0.0), from_in all path lo hi h.1)

before_from : (a : Why) (ys : List Why) (i : ℕ) → a.path ≡ i → AreFrom ys (i + 1) → IsBefore a ys
before_from a [] i is h = tt
before_from a (b ∷ ys) i is h = (inl (omega (arith, is, h.0)), before_from a ys i is h.1)

order_from : (xs ys : List Why) (i lo hi : ℕ) → Placed xs i lo hi → AreInOrder ys → AreFrom ys (i + 1) → AreInOrder (xs ++ ys)
order_from [] ys i lo hi h order from = order
order_from (a ∷ xs) ys i lo hi h order from = (before_both a xs ys h.0.0 (before_from a ys i h.1.0.0 from), order_from xs ys i lo hi (h.0.1, h.1.1) order from)

pub all_in_order : (paths : List Path) (i at op : ℕ) (w : List ℕ) → AllOnce paths → AreInOrder (all_whys paths i at op w) × AreFrom (all_whys paths i at op w) i
all_in_order [] i at op w once = (tt, tt)
all_in_order (p ∷ paths) i at op w once =
    let here = placed p i at 0 op w once.0 in
    let later = all_in_order paths (i + 1) (at + slots p) op w once.1 in (
      order_from (whys p i at 0 op w) (all_whys paths (i + 1) (at + slots p) op w) i 0 (0 + node_count p) here later.0 later.1,
      from_both (whys p i at 0 op w) (all_whys paths (i + 1) (at + slots p) op w) i (from_in (whys p i at 0 op w) i 0 (0 + node_count p) here.1)
          (from_lower (all_whys paths (i + 1) (at + slots p) op w) i (i + 1) (omega arith) later.1),
    )
