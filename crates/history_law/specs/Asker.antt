-- Each reply that a connection is told is that of the call for which a line of it asked.
use Rattle.std.specs.Prelude.{◌≡◌, ◌⊎◌, ◌<◌, ℕ, Bool, true, false, List, [], ◌∷◌, ◌++◌}
use Rattle.std.specs.Str.Lines.{strip_carriage_return}
use Rattle.session_text.specs.Lines.{accepted_text}
use Rattle.live_core.specs.Scene.{told_of}
use Rattle.keep_loop.specs.Turns.{Turn, Runs, heard_of}
use Rattle.keep_loop.specs.declared.served.LineEnd.{LineEnd}
use Rattle.keep_loop.specs.declared.served.LineEnd.TheVariants as ends
use Rattle.keep_loop.specs.declared.keep.LoopLimits.{LoopLimits}
use Rattle.keep_loop.specs.Cuts.{IsCut}
use Rattle.keep_loop.specs.Epochs.{rules_of, since_in, stored_since}
use Rattle.keep_loop.specs.Seen.{Happened}
use Rattle.keep_loop.specs.Stands.{IsHonest, IsBetween}
use Rattle.client_core.specs.Deeds.{Texts}
use Rattle.history_law.specs.Said.{SaysNoReply}
use Rattle.table_core.specs.Moves.{Gives, Fronts}
use Rattle.table_core.specs.Seen.{IsQuiet, seen}
use Rattle.table_core.specs.declared.table.Table.{Table}
use Rattle.history_law.specs.Kept.{LeavesAnswered}
use Rattle.history_law.specs.Replied.{HaveOneHistory, IsReplied, IsRepeated}
use Rattle.history_law.specs.Awaits.{IsElementOf, HasAsked, AllHeld, Awaits}

-- how a line ended behind which an LF stood, or not
abbrev pub end_of_asker : Bool → LineEnd
end_of_asker true = ends.Feed
end_of_asker false = ends.Input

-- In these turns a connection said this line: as it is done, without a CR at its end.
pub record HasSaid (turns : List Turn) (who : ℕ) (line : List ℕ) (is_whole : Bool) : Type 0 where
  pub heard : List ℕ
  pub is_heard : IsElementOf (heard, end_of_asker is_whole) (heard_of who turns)
  pub line_is : line ≡ strip_carriage_return heard

-- what each connection says is cut into the lines that are heard: none has an LF in it, and one without an LF is the last
abbrev pub AreCut : List Turn → Type 0
AreCut turns = (who : ℕ) → (ended : ℕ) × (came : List ℕ) × IsCut ended came (heard_of who turns)

-- what is told in turns, one after the other
abbrev pub said_by : List Turn → Texts
said_by [] = []
said_by (t ∷ turns) = t.said ++ said_by turns

-- A text tells a connection in a turn how a call ended that ran in it, and which stands in the history of all epochs of its
-- object; lines that this connection had said by then asked to open this object, and for this call; and its number was told to
-- this connection before.
pub record IsAnsweredBetween (first last : Table) (turns before : List Turn) (t : Turn) (h : HaveOneHistory first last turns) (who : ℕ) (text : List ℕ) (front : Texts) : Type 0 where
  pub replied : IsReplied first last turns before h text
  pub asked : HasAsked (HasSaid (before ++ t ∷ [])) who replied.scene.hall.object replied.call
  pub accepted : IsElementOf (who, accepted_text (told_of replied.scene replied.call.number)) (said_by before ++ front)

-- Turns have one history, and what any connection is told in one of them with a reply is such a text; or it tells what the
-- object remembers of a call that was made before under a key.
pub record HaveAskers (first last : Table) (turns : List Turn) : Type 0 where
  pub history : HaveOneHistory first last turns
  pub each : (before after : List Turn) (t : Turn) (who : ℕ) (text : List ℕ) (front behind : Texts) → turns ≡ before ++ t ∷ after → t.said ≡ front ++ (who, text) ∷ behind →
      IsAnsweredBetween first last turns before t history who text front ⊎ (IsRepeated first last turns before history text ⊎ SaysNoReply text)

-- So it is of any turns, from a table on of which nobody has opened an object.
abbrev pub RepliesAreAsked : Type 0
RepliesAreAsked =
    (first last : Table) (turns : List Turn) → Runs Gives first turns last → AreCut turns → AllHeld first.objects.items → IsQuiet (seen first) →
    HaveAskers first last turns

-- Behind them each that waits does so for a call for which a line of it asked, and of which its number was told to it; and what
-- is held are lines that it said.
abbrev pub WaitsAreAsked : Type 0
WaitsAreAsked =
    (first last : Table) (turns : List Turn) → Runs Gives first turns last → AreCut turns → AllHeld first.objects.items → IsQuiet (seen first) →
    Awaits (HasSaid turns) (said_by turns) last.objects.items (seen last).peers

-- So both are from a table on.
abbrev pub AreAskedFrom : Table → Type 0
AreAskedFrom first =
    (last : Table) (turns : List Turn) → Runs Gives first turns last → AreCut turns → AllHeld first.objects.items →
    HaveAskers first last turns × Awaits (HasSaid turns) (said_by turns) last.objects.items (seen last).peers

-- A crash leaves one history of turns, as before, and what is told in them is so.
pub record LeavesAsked (first : Table) (limits : LoopLimits) (seen_so : List Happened) (found : ℕ → List ℕ) : Type 0 where
  pub answered : LeavesAnswered first limits seen_so found
  pub askers : HaveAskers first answered.left.survives.last (answered.left.survives.answered ++ answered.left.survives.later)

-- So it does at each moment of a loop that is honest, where answers wait for the disk.
abbrev pub CrashLeavesAsked : Type 0
CrashLeavesAsked =
    (first : Table) (limits : LoopLimits) (seen_so : List Happened) (found : ℕ → List ℕ) → limits.waits ≡ true →
    IsHonest (rules_of Gives Fronts) first limits seen_so →
    ((j : ℕ) → j < limits.journals → IsBetween (stored_since j seen_so) (since_in j seen_so) (found j)) →
    AllHeld first.objects.items → IsQuiet (seen first) → LeavesAsked first limits seen_so found

-- So it does where a loop began with this table.
abbrev pub CrashLeavesAskedFrom : Table → Type 0
CrashLeavesAskedFrom first =
    (limits : LoopLimits) (seen_so : List Happened) (found : ℕ → List ℕ) → limits.waits ≡ true →
    IsHonest (rules_of Gives Fronts) first limits seen_so →
    ((j : ℕ) → j < limits.journals → IsBetween (stored_since j seen_so) (since_in j seen_so) (found j)) →
    AllHeld first.objects.items → LeavesAsked first limits seen_so found
