-- From the bytes of a client to its bytes: what a connection is written are the texts of its talk.
use Rattle.std.specs.Prelude.{◌≡◌, ◌<◌, ℕ, true, List, ◌++◌}
use Rattle.keep_loop.specs.Texts.{Begins}
use Rattle.keep_loop.specs.Turns.{Turn, Runs, said_to}
use Rattle.keep_loop.specs.declared.keep.LoopLimits.{LoopLimits}
use Rattle.keep_loop.specs.Cuts.{IsCut}
use Rattle.keep_loop.specs.Epochs.{rules_of, since_in, stored_since}
use Rattle.keep_loop.specs.Seen.{Happened, came_from, ended_in, written_to}
use Rattle.keep_loop.specs.Stands.{IsHonest, IsBetween}
use Rattle.table_core.specs.Moves.{Gives, Fronts}
use Rattle.table_core.specs.Seen.{seen}
use Rattle.table_core.specs.declared.table.Table.{Table}
use Rattle.history_law.specs.Kept.{LeavesAnswered}
use Rattle.history_law.specs.Asker.{AreCut}
use Rattle.history_law.specs.Awaits.{AllHeld}
use Rattle.history_law.specs.Talk.{Part, lines_of, put_together, texts_of}
use Rattle.history_law.specs.Order.{IsEmpty}
use Rattle.history_law.specs.Once.{AreToldOnce}

-- The bytes that turns say to a connection, from its coming on, are the texts of its talk, put together.
pub record AreWritten (first last : Table) (turns : List Turn) : Type 0 where
  pub told : AreToldOnce first last turns
  pub bytes : (c : ℕ) → said_to c turns ≡ put_together (texts_of (told.order.each c).parts)

-- So it is of any turns, from a table on at which nobody is.
abbrev pub AnswersAreWritten : Type 0
AnswersAreWritten =
    (first last : Table) (turns : List Turn) → Runs Gives first turns last → AreCut turns → AllHeld first.objects.items → IsEmpty (seen first) →
    AreWritten first last turns

-- This was seen of a connection: what it said is cut into the lines of its talk, and begins with them; and what it was written is
-- a front of the texts of its talk, put together.
pub record IsServed (c : ℕ) (seen_so : List Happened) (parts : List Part) : Type 0 where
  pub heard : IsCut (ended_in c seen_so) (came_from c seen_so) (lines_of parts)
  pub written : Begins (written_to c seen_so) (put_together (texts_of parts))

-- There is one history of turns, and each connection was served its talk in it.
pub record AllAreServed (first : Table) (seen_so : List Happened) : Type 0 where
  pub turns : List Turn
  pub last : Table
  pub runs : Runs Gives first turns last
  pub written : AreWritten first last turns
  pub each : (c : ℕ) → IsServed c seen_so (written.told.order.each c).parts

-- So it is at each moment of a loop that is honest.
abbrev pub HonestServesAll : Type 0
HonestServesAll =
    (first : Table) (limits : LoopLimits) (seen_so : List Happened) → IsHonest (rules_of Gives Fronts) first limits seen_so →
    AllHeld first.objects.items → IsEmpty (seen first) → AllAreServed first seen_so

-- A crash leaves one history of turns, as before, in which it is so.
pub record LeavesServed (first : Table) (limits : LoopLimits) (seen_so : List Happened) (found : ℕ → List ℕ) : Type 0 where
  pub answered : LeavesAnswered first limits seen_so found
  pub written : AreWritten first answered.left.survives.last (answered.left.survives.answered ++ answered.left.survives.later)
  pub each : (c : ℕ) → IsServed c seen_so (written.told.order.each c).parts

-- So it does at each moment of a loop that is honest, where answers wait for the disk.
abbrev pub CrashLeavesServed : Type 0
CrashLeavesServed =
    (first : Table) (limits : LoopLimits) (seen_so : List Happened) (found : ℕ → List ℕ) → limits.waits ≡ true →
    IsHonest (rules_of Gives Fronts) first limits seen_so →
    ((j : ℕ) → j < limits.journals → IsBetween (stored_since j seen_so) (since_in j seen_so) (found j)) →
    AllHeld first.objects.items → IsEmpty (seen first) → LeavesServed first limits seen_so found
