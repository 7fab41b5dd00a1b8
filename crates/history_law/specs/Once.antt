-- No two connections are told of one call, and none is told of it twice.
use Rattle.std.specs.Prelude.{◌≡◌, ◌<◌, ℕ, true, List, ◌++◌}
use Rattle.decl_core.specs.ObjectForm.{ObjectForm}
use Rattle.keep_loop.specs.Turns.{Turn, Runs}
use Rattle.keep_loop.specs.declared.keep.LoopLimits.{LoopLimits}
use Rattle.keep_loop.specs.Epochs.{rules_of, since_in, stored_since}
use Rattle.keep_loop.specs.Seen.{Happened}
use Rattle.keep_loop.specs.Stands.{IsHonest, IsBetween}
use Rattle.table_core.specs.Moves.{Gives, Fronts}
use Rattle.table_core.specs.Seen.{seen}
use Rattle.table_core.specs.declared.table.Table.{Table}
use Rattle.history_law.specs.Kept.{LeavesAnswered}
use Rattle.history_law.specs.Replied.{ends_in}
use Rattle.history_law.specs.Asker.{AreCut}
use Rattle.history_law.specs.Awaits.{AllHeld}
use Rattle.history_law.specs.Talk.{ends_of}
use Rattle.history_law.specs.Order.{AreInTheirOrder, IsEmpty}
use Rattle.history_law.specs.Dealt.{Dealt, dealt_ends, ends_for}

-- Each connection is told its talk in the one history. Of each object there is a list of its calls, each with the connection
-- that was told of it, if one was: their ends are those of the one history, each once, in their order; and the ends that a
-- connection is told in its talk are just those that are its own there.
pub record AreToldOnce (first last : Table) (turns : List Turn) : Type 0 where
  pub order : AreInTheirOrder first last turns
  pub dealt : ℕ → List Dealt
  pub all : (o : ObjectForm) (j : ℕ) → dealt_ends o (dealt j) ≡ ends_in o j order.history.accounts
  pub each : (o : ObjectForm) (j c : ℕ) → ends_of o j (order.each c).parts ≡ ends_for c o (dealt j)

-- So it is of any turns, from a table on at which nobody is.
abbrev pub EndsAreToldOnce : Type 0
EndsAreToldOnce =
    (first last : Table) (turns : List Turn) → Runs Gives first turns last → AreCut turns → AllHeld first.objects.items → IsEmpty (seen first) →
    AreToldOnce first last turns

-- A crash leaves one history of turns, as before, and what is told in them is so.
pub record LeavesToldOnce (first : Table) (limits : LoopLimits) (seen_so : List Happened) (found : ℕ → List ℕ) : Type 0 where
  pub answered : LeavesAnswered first limits seen_so found
  pub told : AreToldOnce first answered.left.survives.last (answered.left.survives.answered ++ answered.left.survives.later)

-- So it does at each moment of a loop that is honest, where answers wait for the disk.
abbrev pub CrashLeavesToldOnce : Type 0
CrashLeavesToldOnce =
    (first : Table) (limits : LoopLimits) (seen_so : List Happened) (found : ℕ → List ℕ) → limits.waits ≡ true →
    IsHonest (rules_of Gives Fronts) first limits seen_so →
    ((j : ℕ) → j < limits.journals → IsBetween (stored_since j seen_so) (since_in j seen_so) (found j)) →
    AllHeld first.objects.items → IsEmpty (seen first) → LeavesToldOnce first limits seen_so found
