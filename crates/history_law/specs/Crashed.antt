-- What a crash leaves of what is held.
use Rattle.std.specs.Prelude.{◌≡◌, ◌⊎◌, ◌<◌, ℕ, true, List, [], ◌∷◌, ◌++◌, Some, None, slice_get}
use Rattle.decl_core.specs.ObjectForm.{ObjectForm}
use Rattle.word_core.specs.Events.{Happened as Ended}
use Rattle.history_law.specs.Named.{IsNamed}
use Rattle.live_core.specs.declared.past.PastRun.{PastRun}
use Rattle.live_core.specs.Text.{front_text}
use Rattle.audit_core.specs.Steps.{nothing_heard}
use Rattle.recover_core.specs.Playing.{begun_by}
use Rattle.live_core.specs.Fronts.{front_of}
use Rattle.live_core.specs.Scene.{Scene}
use Rattle.history_law.specs.Stands.{Stands}
use Rattle.client_core.specs.Custody.{Custody}
use Rattle.decl_core.specs.HoldForm.{RulesForm}
use Rattle.front_read.specs.HeldLines.{held_text}
use Rattle.keep_loop.specs.Turns.{Turn, Runs}
use Rattle.keep_loop.specs.declared.keep.LoopLimits.{LoopLimits}
use Rattle.keep_loop.specs.Seen.{Happened}
use Rattle.keep_loop.specs.Epochs.{rules_of, front_in, since_in, stored_since, change_to}
use Rattle.keep_loop.specs.Stands.{IsHonest, IsBetween}
use Rattle.history_law.specs.Said.{Account}
use Rattle.table_core.specs.Moves.{Gives, Fronts}
use Rattle.table_core.specs.declared.table.Table.{Table}
use Rattle.history_law.specs.Kept.{Stood, LeavesAnswered}
use Rattle.history_law.specs.Ended.{HoldsBy, EndsOver}
use Rattle.history_law.specs.Played.{LeavesHeld}

-- Turns have led to the one in which the journal of an object last began anew by a text; these calls had ended until then, and
-- what the text says of what is held, and what is played of it and of what is found behind it, is what they and those have
-- left that are recovered.
pub record IsHeldBehind (first last : Table) (j : ℕ) (o : ObjectForm) (rules : RulesForm) (past : List Ended) (turns : List Turn) (text found : List ℕ) : Type 0 where
  pub earlier : List Turn
  pub since : List Turn
  pub cut : turns ≡ earlier ++ change_to j text ∷ since
  pub before : Table
  pub after : Table
  pub runs : Runs Gives after since last
  pub accounts : List Account
  pub ends : List Ended
  pub over : EndsOver j first earlier accounts before past ends
  pub leaves : LeavesHeld after j o rules ends text found

-- Or it has just begun anew, and the object was not told: then the text says what is held behind all turns, and nothing is
-- found behind it.
pub record IsHeldAhead (first last : Table) (j : ℕ) (o : ObjectForm) (rules : RulesForm) (past : List Ended) (turns : List Turn) (text found : List ℕ) : Type 0 where
  pub accounts : List Account
  pub ends : List Ended
  pub over : EndsOver j first turns accounts last past ends
  pub holds : HoldsBy last j rules ends
  pub front : List ℕ
  pub text_is : text ≡ front ++ held_text o rules.holds holds.custody.held
  pub nothing : found ≡ []

-- An object of which no call waits stands behind the front that a start has written for it, with these events of its past.
pub record HasStartedAnew (first : Table) (j : ℕ) (o : ObjectForm) (events : List PastRun) : Type 0 where
  pub scene : Scene
  pub there : slice_get first.objects.items j ≡ Some scene
  pub names : IsNamed o
  pub stands : Stands o (begun_by (front_of scene scene.epoch events scene.base)) nothing_heard scene
  pub waiting : scene.hall.waiting ≡ []
  pub carried : scene.carried ≡ []

-- that front, and the lines of what was held at the start
abbrev pub start_text : {first : Table} {j : ℕ} {o : ObjectForm} {events : List PastRun} → (rules : RulesForm) → HasStartedAnew first j o events → Custody → List ℕ
start_text {o = o} {events = events} rules s c =
    front_text o (front_of s.scene s.scene.epoch events s.scene.base) ++ held_text o rules.holds c.held

-- After a crash at each moment of a loop that is honest, where answers wait for the disk, there is one history of turns, as
-- before, and the text by which a journal last began anew says so what was held of its object. Where it did not begin anew, so
-- does the text that the start wrote.
pub record LeavesAllHeld (first : Table) (limits : LoopLimits) (seen : List Happened) (found : ℕ → List ℕ) : Type 0 where
  pub answered : LeavesAnswered first limits seen found
  pub held : (j : ℕ) (o : ObjectForm) (rules : RulesForm) (past : List Ended) (text : List ℕ) → j < limits.journals → front_in j seen ≡ Some text → Stood first j o → HoldsBy first j rules past →
      IsHeldBehind first answered.left.survives.last j o rules past (answered.left.survives.answered ++ answered.left.survives.later) text (found j)
      ⊎ IsHeldAhead first answered.left.survives.last j o rules past (answered.left.survives.answered ++ answered.left.survives.later) text (found j)
  pub at_first : (j : ℕ) (o : ObjectForm) (rules : RulesForm) (past : List Ended) (events : List PastRun) → j < limits.journals → front_in j seen ≡ None → (s : HasStartedAnew first j o events) →
      (h : HoldsBy first j rules past) → LeavesHeld first j o rules past (start_text rules s h.custody) (found j)

abbrev pub CrashLeavesHeld : Type 0
CrashLeavesHeld =
    (first : Table) (limits : LoopLimits) (seen : List Happened) (found : ℕ → List ℕ) → limits.waits ≡ true →
    IsHonest (rules_of Gives Fronts) first limits seen →
    ((j : ℕ) → j < limits.journals → IsBetween (stored_since j seen) (since_in j seen) (found j)) →
    LeavesAllHeld first limits seen found
