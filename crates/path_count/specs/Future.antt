-- What counters say of all that may follow the trace which they keep.
use Rattle.std.specs.Prelude.{◌≡◌, ℕ, ◌+◌, ◌<◌, ◌≤◌, List, [], ◌∷◌, ◌++◌, length}
use Rattle.path_tree.specs.Path.{Path}
use Rattle.path_tree.specs.Trace.{Call, Event, Start, End, IsTrace, running_calls}
use Rattle.path_tree.specs.Satisfies.{SatisfiesAll}
use Rattle.path_count.specs.Object.{all_slots, KeptAll, AllOnce}

-- these counters keep what a trace has done that satisfies every path
pub record Leaves (paths : List Path) (t : List Event) (words : List ℕ) : Type 0 where
  pub trace : IsTrace t
  pub satisfied : SatisfiesAll paths t
  pub kept : KeptAll paths 0 words t

-- the same operations start and end, in the same order; the calls may have other numbers
abbrev pub AreAlike : List Event → List Event → Type 0
AreAlike [] [] = Unit {0}
AreAlike [] (event ∷ others) = ⊥
AreAlike (event ∷ events) [] = ⊥
AreAlike (Start c ∷ events) (Start d ∷ others) = (c.operation ≡ d.operation) × AreAlike events others
AreAlike (Start c ∷ events) (End d ∷ others) = ⊥
AreAlike (End c ∷ events) (Start d ∷ others) = ⊥
AreAlike (End c ∷ events) (End d ∷ others) = (c.operation ≡ d.operation) × AreAlike events others

-- Of two traces that leave the same counters: what follows and satisfies the paths behind the one does so behind the
-- other.
abbrev pub SameFuture : Type 0
SameFuture =
    (paths : List Path) (words : List ℕ) (t s more others : List Event) → AllOnce paths →
    all_slots paths ≤ length words → Leaves paths t words → Leaves paths s words → AreAlike more others →
    IsTrace (more ++ t) → IsTrace (others ++ s) → SatisfiesAll paths (more ++ t) → SatisfiesAll paths (others ++ s)

-- a call, by a number that is so much greater
abbrev pub later_call : ℕ → Call → Call
later_call base call = record { number = base + call.number; operation = call.operation }

-- events of calls that are numbered on
abbrev pub later : ℕ → List Event → List Event
later base [] = []
later base (Start call ∷ past) = Start (later_call base call) ∷ later base past
later base (End call ∷ past) = End (later_call base call) ∷ later base past

-- each call has a number, from 1, up to this one
abbrev pub AreUpTo : ℕ → List Event → Type 0
AreUpTo most [] = Unit {0}
AreUpTo most (Start call ∷ past) = (0 < call.number) × (call.number ≤ most) × AreUpTo most past
AreUpTo most (End call ∷ past) = AreUpTo most past

-- A whole past of calls up to this number, none of which runs any more, that leaves these counters.
pub record IsPast (paths : List Path) (base : ℕ) (words : List ℕ) (t : List Event) : Type 0 where
  pub leaves : Leaves paths t words
  pub numbers : AreUpTo base t
  pub quiet : running_calls t ≡ []

-- An epoch, with numbers of its own from 1, keeps the paths behind these counters: behind each past that leaves them.
abbrev pub KeepsPaths : List Path → List ℕ → List Event → Type 0
KeepsPaths paths words epoch = (base : ℕ) (past : List Event) → IsPast paths base words past →
    IsTrace (later base epoch ++ past) × SatisfiesAll paths (later base epoch ++ past)

-- It is enough that it does behind one.
abbrev pub OnePastIsEnough : Type 0
OnePastIsEnough =
    (paths : List Path) (words : List ℕ) (most base : ℕ) (epoch past : List Event) → AllOnce paths →
    all_slots paths ≤ length words → IsTrace epoch → AreUpTo most epoch → IsPast paths base words past →
    SatisfiesAll paths (later base epoch ++ past) → KeepsPaths paths words epoch

-- Of two pasts that leave the same counters and in which nothing runs any more: where an epoch goes on from the one and
-- all its calls have ended, then behind the other one its calls, numbered on, leave the same counters as there.
abbrev pub EpochsGoOn : Type 0
EpochsGoOn =
    (paths : List Path) (words next : List ℕ) (most base : ℕ) (epoch past other : List Event) → AllOnce paths →
    all_slots paths ≤ length words → Leaves paths past words → running_calls past ≡ [] →
    IsPast paths base words other → AreUpTo most epoch → Leaves paths (epoch ++ past) next →
    running_calls (epoch ++ past) ≡ [] →
    Leaves paths (later base epoch ++ other) next × (running_calls (later base epoch ++ other) ≡ [])
