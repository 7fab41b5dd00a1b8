-- What each connection is told, in the order of its lines and of the one history.
use Rattle.std.specs.Prelude.{◌≡◌, ◌<◌, ℕ, true, List, [], ◌++◌, Some, None, slice_get}
use Rattle.decl_core.specs.ObjectForm.{ObjectForm}
use Rattle.keep_loop.specs.Turns.{Turn, Runs, heard_of}
use Rattle.keep_loop.specs.declared.keep.LoopLimits.{LoopLimits}
use Rattle.keep_loop.specs.Epochs.{rules_of, since_in, stored_since}
use Rattle.keep_loop.specs.Seen.{Happened}
use Rattle.keep_loop.specs.Stands.{IsHonest, IsBetween}
use Rattle.client_core.specs.State.{Peer, State}
use Rattle.table_core.specs.Moves.{Gives, Fronts}
use Rattle.table_core.specs.Seen.{seen}
use Rattle.table_core.specs.declared.table.Table.{Table}
use Rattle.history_law.specs.Kept.{LeavesAnswered}
use Rattle.history_law.specs.Replied.{HaveOneHistory, ends_in}
use Rattle.history_law.specs.Asker.{AreCut, said_by}
use Rattle.history_law.specs.Awaits.{AllHeld}
use Rattle.history_law.specs.Talk.{Talk, Part, Course, AllKept, ArePicked, ends_of, lines_of, texts_of, texts_to}
use Rattle.history_law.specs.Talk.Talk.{Away}

-- nobody is there, nobody has opened an object, and no line is held
abbrev pub IsEmpty : State → Type 0
IsEmpty s = (place : ℕ) (p : Peer) → slice_get s.peers place ≡ Some p → (p.who ≡ None) × (p.opened ≡ None) × (p.held ≡ [])

-- The lines that a connection said in turns and the texts that it was told in them are those of one talk, in which each line is
-- done in its turn; each call that ended in it is the one for which its line asked; and of each object these ends stand in the
-- one history, in their order, each at a place of its own.
pub record IsInOrder (first last : Table) (turns : List Turn) (h : HaveOneHistory first last turns) (c : ℕ) : Type 0 where
  pub parts : List Part
  pub now : Talk
  pub course : Course parts Away now
  pub lines : lines_of parts ≡ heard_of c turns
  pub texts : texts_of parts ≡ texts_to c (said_by turns)
  pub kept : AllKept first.objects.items parts
  pub picked : (o : ObjectForm) (j : ℕ) → ArePicked (ends_of o j parts) (ends_in o j h.accounts)

-- Turns have one history, and each connection is told so in it.
pub record AreInTheirOrder (first last : Table) (turns : List Turn) : Type 0 where
  pub history : HaveOneHistory first last turns
  pub each : (c : ℕ) → IsInOrder first last turns history c

-- So it is of any turns, from a table on at which nobody is.
abbrev pub AnswersAreInOrder : Type 0
AnswersAreInOrder =
    (first last : Table) (turns : List Turn) → Runs Gives first turns last → AreCut turns → AllHeld first.objects.items → IsEmpty (seen first) →
    AreInTheirOrder first last turns

-- A crash leaves one history of turns, as before, and what is told in them is so.
pub record LeavesInOrder (first : Table) (limits : LoopLimits) (seen_so : List Happened) (found : ℕ → List ℕ) : Type 0 where
  pub answered : LeavesAnswered first limits seen_so found
  pub order : AreInTheirOrder first answered.left.survives.last (answered.left.survives.answered ++ answered.left.survives.later)

-- So it does at each moment of a loop that is honest, where answers wait for the disk.
abbrev pub CrashLeavesInOrder : Type 0
CrashLeavesInOrder =
    (first : Table) (limits : LoopLimits) (seen_so : List Happened) (found : ℕ → List ℕ) → limits.waits ≡ true →
    IsHonest (rules_of Gives Fronts) first limits seen_so →
    ((j : ℕ) → j < limits.journals → IsBetween (stored_since j seen_so) (since_in j seen_so) (found j)) →
    AllHeld first.objects.items → IsEmpty (seen first) → LeavesInOrder first limits seen_so found
