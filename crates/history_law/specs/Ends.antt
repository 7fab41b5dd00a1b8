-- Each line of what is held says something by itself.
use Rattle.decl_core.specs.ObjectForm.{ObjectForm}
use Rattle.std.specs.Prelude.{◌≡◌, ◌<◌, ℕ, true, List, ◌++◌, Some, None}
use Rattle.word_core.specs.Events.{Happened}
use Rattle.live_core.specs.Front.{Every, Opening}
use Rattle.live_core.specs.Text.{front_text}
use Rattle.decl_core.specs.HoldForm.{RulesForm}
use Rattle.front_read.specs.HeldLines.{held_text, IsHeldLine}
use Rattle.recover_core.specs.HeldText.{HasHeld}
use Rattle.recover_core.specs.Laws.{AreEndings}
use Rattle.history_law.specs.Ended.{EndsOver, HoldsBy}
use Rattle.history_law.specs.Year.{Epoch}
use Rattle.keep_loop.specs.Turns.{Turn}
use Rattle.keep_loop.specs.declared.keep.LoopLimits.{LoopLimits}
use Rattle.keep_loop.specs.Seen.{Happened as Seen}
use Rattle.keep_loop.specs.Epochs.{rules_of, front_in, since_in, stored_since}
use Rattle.keep_loop.specs.Stands.{IsHonest, IsBetween}
use Rattle.history_law.specs.Said.{Account}
use Rattle.table_core.specs.Moves.{Gives, Fronts}
use Rattle.table_core.specs.declared.table.Table.{Table}
use Rattle.history_law.specs.Lived.{LeavesOneHistory}
use Rattle.history_law.specs.LifeKeeps.{KeepsAt}
use Rattle.history_law.specs.TurnLives.{StartsAt}

-- Calls that ended in turns could have been asked of the object, and have a reply of their operation; their numbers are those that
-- were told, in 64 bits.
abbrev pub TurnsEndSo : Type 0
TurnsEndSo =
    (first last : Table) (turns : List Turn) (accounts : List Account) (j : ℕ) (o : ObjectForm) (past ends : List Happened) → KeepsAt first j o →
    EndsOver j first turns accounts last past ends → AreEndings o past → AreEndings o ends

-- So each line of what is held says something by itself.
abbrev pub HeldSaysSo : Type 0
HeldSaysSo =
    (t : Table) (j : ℕ) (o : ObjectForm) (rules : RulesForm) (past : List Happened) → AreEndings o past → (h : HoldsBy t j rules past) → Every (IsHeldLine o rules.holds) h.custody.held

-- A journal last began anew by a text, in these turns or just behind them. The text says of the object and of what is held just
-- this: what the calls have left that had ended until then; and what was found stands behind that.
pub record IsHeldRead (first : Table) (j : ℕ) (o : ObjectForm) (rules : RulesForm) (past : List Happened) (turns : List Turn) (text found : List ℕ) : Type 0 where
  pub before : List Turn
  pub rest : List Turn
  pub cut : turns ≡ before ++ rest
  pub at : Table
  pub accounts : List Account
  pub ends : List Happened
  pub over : EndsOver j first before accounts at past ends
  pub holds : HoldsBy at j rules ends
  pub front : Opening
  pub says : HasHeld o rules.holds (text ++ found) front holds.custody.held found

-- After a crash at each moment of a loop that is honest, where answers wait for the disk, there is one history of turns, as
-- before; and so does each text by which a journal last began anew. Where it did not begin anew, so does what the start wrote.
pub record LeavesSaid (first : Table) (limits : LoopLimits) (all : List Seen) (found : ℕ → List ℕ) : Type 0 where
  pub history : LeavesOneHistory first limits all found
  pub anew : (j : ℕ) (o : ObjectForm) (written : Opening) (earlier : List Epoch) (rules : RulesForm) (past : List Happened) (text : List ℕ) → j < limits.journals → front_in j all ≡ Some text →
      StartsAt first j o written earlier → HoldsBy first j rules past → AreEndings o past →
      IsHeldRead first j o rules past (history.answered.left.survives.answered ++ history.answered.left.survives.later) text (found j)
  pub at_first : (j : ℕ) (o : ObjectForm) (written : Opening) (earlier : List Epoch) (rules : RulesForm) (past : List Happened) → j < limits.journals → front_in j all ≡ None →
      StartsAt first j o written earlier → (h : HoldsBy first j rules past) → AreEndings o past →
      HasHeld o rules.holds ((front_text o written ++ held_text o rules.holds h.custody.held) ++ found j) written h.custody.held (found j)

abbrev pub CrashSaysHeld : Type 0
CrashSaysHeld =
    (first : Table) (limits : LoopLimits) (all : List Seen) (found : ℕ → List ℕ) → limits.waits ≡ true →
    IsHonest (rules_of Gives Fronts) first limits all →
    ((j : ℕ) → j < limits.journals → IsBetween (stored_since j all) (since_in j all) (found j)) →
    LeavesSaid first limits all found
