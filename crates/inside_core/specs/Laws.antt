-- What the counts say of the calls that ran.
use Rattle.std.specs.Prelude.{◌≡◌, ◌<◌, ℕ, ◌+◌, ◌^◌, ◌==◌, Bool, true, false, List, [], ◌∷◌, Some, length, slice_get, if◌then◌else◌}
use Rattle.apply_core.specs.declared.reply.Reply.{Reply}
use Rattle.apply_core.specs.declared.reply.Reply.TheVariants.{Done, Refused, Failed}
use Rattle.live_core.specs.declared.call.Ran.{Ran}
use Rattle.live_core.specs.declared.live.Taken.{Taken}
use Rattle.inside_core.specs.declared.tallies.CallEnds.{CallEnds}
use Rattle.inside_core.specs.declared.tallies.ObjectTally.{ObjectTally}
use Rattle.inside_core.specs.Tallies.{CountsTaken, counted_all, ends_of, taken_of}

abbrev pub is_done : Reply → Bool
is_done (Done value) = true
is_done (Refused word) = false
is_done (Failed failure) = false

abbrev pub is_refused : Reply → Bool
is_refused (Done value) = false
is_refused (Refused word) = true
is_refused (Failed failure) = false

abbrev pub is_failed : Reply → Bool
is_failed (Done value) = false
is_failed (Refused word) = false
is_failed (Failed failure) = true

-- how many of these calls are of the operation at this place, and ended so
abbrev pub of_kind : (Reply → Bool) → ℕ → List Ran → ℕ
of_kind is k [] = 0
of_kind is k (r ∷ rs) = (if r.call.operation == k then (if is r.reply then 1 else 0) else 0) + of_kind is k rs

-- how many calls are counted, of an operation and of all
abbrev pub ends_sum : CallEnds → ℕ
ends_sum e = e.done + e.refused + e.failed

abbrev pub sum_of : List CallEnds → ℕ
sum_of [] = 0
sum_of (e ∷ es) = ends_sum e + sum_of es

-- each is of an operation that has a count
abbrev pub AreKnown : ℕ → List Ran → Type 0
AreKnown count [] = Unit {0}
AreKnown count (r ∷ rs) = (r.call.operation < count) × AreKnown count rs

-- The counts of an operation grow by those of its calls that ran, by how they ended, as long as there are numbers for them.
abbrev pub CountsAreOfTheCalls : Type 0
CountsAreOfTheCalls =
    (es : List CallEnds) (all : List Ran) (k : ℕ) (before after : CallEnds) → sum_of es + length all < 2 ^ 64 →
    slice_get es k ≡ Some before → slice_get (counted_all all es) k ≡ Some after →
    (after.done ≡ before.done + of_kind is_done k all) × (after.refused ≡ before.refused + of_kind is_refused k all)
    × (after.failed ≡ before.failed + of_kind is_failed k all)

-- Each call that ran is counted once.
abbrev pub SumsGrowAsTheHistory : Type 0
SumsGrowAsTheHistory =
    (es : List CallEnds) (all : List Ran) → sum_of es + length all < 2 ^ 64 → AreKnown (length es) all →
    sum_of (counted_all all es) ≡ sum_of es + length all

-- A call that was taken is one more that was taken of its object, and all counts of ends of this object are more by the
-- calls that ran, as long as there are numbers for them; another object has the counts that it had.
abbrev pub TakenIsCounted : Type 0
TakenIsCounted =
    (at : ℕ) (taken : Taken) (old new : List ObjectTally) → CountsTaken at taken old new →
    taken_of (slice_get old at) + 1 < 2 ^ 64 → sum_of (ends_of (slice_get old at)) + length taken.ran.items < 2 ^ 64 →
    AreKnown (length (ends_of (slice_get old at))) taken.ran.items →
    (taken_of (slice_get new at) ≡ taken_of (slice_get old at) + 1)
    × (sum_of (ends_of (slice_get new at)) ≡ sum_of (ends_of (slice_get old at)) + length taken.ran.items)
    × ((k : ℕ) → (at == k) ≡ false →
    (taken_of (slice_get new k) ≡ taken_of (slice_get old k)) × (ends_of (slice_get new k) ≡ ends_of (slice_get old k)))
