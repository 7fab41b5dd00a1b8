-- Counts of calls that ran.
use Rattle.std.specs.Prelude.{◌≡◌, ℕ, zero, suc, ◌+◌, ◌-◌, ◌^◌, List, [], ◌∷◌, ◌++◌, ◌==◌, Option, Some, None, min, slice_get, slice_set, if◌then◌else◌}
use Rattle.apply_core.specs.declared.reply.Reply.{Reply}
use Rattle.apply_core.specs.declared.reply.Reply.TheVariants.{Done, Refused, Failed}
use Rattle.live_core.specs.declared.call.Ran.{Ran}
use Rattle.live_core.specs.declared.live.Taken.{Taken}
use Rattle.inside_core.specs.declared.tallies.CallEnds.{CallEnds}
use Rattle.inside_core.specs.declared.tallies.ObjectTally.{ObjectTally}

-- counts of so many operations of which no call ended
abbrev pub nones : ℕ → List CallEnds
nones zero = []
nones (suc n) = record { done = 0; refused = 0; failed = 0 } ∷ nones n

-- one more, where there is a number for it
abbrev pub next : ℕ → ℕ
next n = min (n + 1) (2 ^ 64 - 1)

-- one more that ended so
abbrev pub more : Reply → CallEnds → CallEnds
more (Done value) e = record e { done = next e.done }
more (Refused word) e = record e { refused = next e.refused }
more (Failed failure) e = record e { failed = next e.failed }

abbrev pub put_more : ℕ → Reply → Option CallEnds → List CallEnds → List CallEnds
put_more at reply None es = es
put_more at reply (Some e) es = slice_set es at (more reply e)

-- a call that ran is counted at the place of its operation
abbrev pub counted : Ran → List CallEnds → List CallEnds
counted r es = put_more r.call.operation r.reply (slice_get es r.call.operation) es

-- and so is each of these
abbrev pub counted_all : List Ran → List CallEnds → List CallEnds
counted_all [] es = es
counted_all (r ∷ rs) es = counted_all rs (counted r es)

-- the counts of an object
abbrev pub ends_of : Option ObjectTally → List CallEnds
ends_of None = []
ends_of (Some t) = t.ends.items

-- how many calls were taken of it
abbrev pub taken_of : Option ObjectTally → ℕ
taken_of None = 0
taken_of (Some t) = t.taken

-- one object more, of so many operations, of which no call was taken
pub record HasOneMore (operations : ℕ) (old new : List ObjectTally) : Type 0 where
  pub tally : ObjectTally
  pub untaken : tally.taken ≡ 0
  pub unended : tally.ends.items ≡ nones operations
  pub behind : new ≡ old ++ tally ∷ []

-- A call of the object at a place was taken: it is counted there, and so is the end of each call that ran. Of the other
-- objects the counts are as they were.
pub record CountsTaken (at : ℕ) (taken : Taken) (old new : List ObjectTally) : Type 0 where
  pub ends : (k : ℕ) → ends_of (slice_get new k)
      ≡ (if at == k then counted_all taken.ran.items (ends_of (slice_get old k)) else ends_of (slice_get old k))
  pub calls : (k : ℕ) → taken_of (slice_get new k)
      ≡ (if at == k then next (taken_of (slice_get old k)) else taken_of (slice_get old k))
