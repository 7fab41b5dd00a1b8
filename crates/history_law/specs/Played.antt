-- What a start plays is what was held.
use Rattle.std.specs.Prelude.{◌≡◌, ℕ, true, List, [], ◌++◌, Some, map, slice_get}
use Rattle.decl_core.specs.ObjectForm.{ObjectForm}
use Rattle.word_core.specs.Events.{Happened}
use Rattle.live_core.specs.declared.front.CarriedCall.{CarriedCall}
use Rattle.live_core.specs.declared.past.PastRun.{PastRun}
use Rattle.live_core.specs.Front.{Opening, HasRows, Every}
use Rattle.live_core.specs.Text.{front_text}
use Rattle.decl_core.specs.HoldForm.{HoldForm, RulesForm}
use Rattle.guest_core.specs.declared.hold_ends.HoldEnds.{HoldEnds}
use Rattle.guest_core.specs.declared.hold_ends.HoldEnds.TheVariants.{ByDone}
use Rattle.guest_core.specs.Held.{HeldCall, AreHeld, AreHeldBy}
use Rattle.front_read.specs.HeldLines.{held_text, IsHeldLine}
use Rattle.recover_core.specs.HeldText.{HasHeld}
use Rattle.recover_core.specs.HeldPlay.{PlaysLines, rules_by}
use Rattle.recover_core.specs.declared.recover.House.{House}
use Rattle.recover_core.specs.declared.recover.Recovered.{Recovered}
use Rattle.recover_core.specs.Playing.{begun_by}
use Rattle.recover_core.specs.Recovered.{IsBehind}
use Rattle.live_core.specs.Fronts.{front_of}
use Rattle.live_core.specs.Scene.{Scene}
use Rattle.keep_loop.specs.Texts.{Begins}
use Rattle.keep_loop.specs.Turns.{Turn, Runs, added_by}
use Rattle.keep_loop.specs.Turns.Asked.{Changes}
use Rattle.keep_loop.specs.Epochs.{BeginsNone}
use Rattle.table_core.specs.Moves.{Gives}
use Rattle.table_core.specs.declared.table.Table.{Table}
use Rattle.history_law.specs.Kept.{Stood, IsServed}
use Rattle.history_law.specs.Ended.{ends_of, HoldsBy}

-- a front gives the calls of an epoch the numbers by which they are told
pub record IsNumbered (f : Opening) (s : Scene) : Type 0 where
  pub carried : s.carried ≡ map (λ (c : CarriedCall). c.told) f.carried
  pub base : s.base ≡ f.base

-- Behind a front this was held. Where these bytes stand behind it, and this is recovered of them, whoever plays the holds of
-- them holds what the calls of just these steps have left.
abbrev pub PlayedIsHeld : Type 0
PlayedIsHeld =
    (ends : HoldEnds) (o : ObjectForm) (h : House) (f : Opening) (bytes : ℕ) (found : List ℕ) (r : Recovered) (holds : List HoldForm) (old new : List HeldCall) (past : List Happened) (s : Scene)
    (b : IsBehind o h f bytes found r) → IsNumbered f s → AreHeldBy ends holds past old → PlaysLines (rules_by ends holds) o (begun_by f) f.base f.carried found old new →
    AreHeldBy ends holds (ends_of s b.steps ++ past) new

-- An object has begun its next epoch by a text, and in turns since lines were added of which a crash has left the first
-- bytes. The text is a front, and the lines of what was held then, by what had happened; it says that this was held, where
-- each line of it says something by itself; and what is played of it, and of what was found, is what the calls have left that
-- are recovered.
pub record LeavesHeld (after : Table) (j : ℕ) (o : ObjectForm) (rules : RulesForm) (past : List Happened) (text found : List ℕ) : Type 0 where
  pub holds : HoldsBy after j rules past
  pub scene : Scene
  pub there : slice_get after.objects.items j ≡ Some scene
  pub front : Opening
  pub text_is : text ≡ front_text o front ++ held_text o rules.holds holds.custody.held
  pub says : HasRows o front → Every (IsHeldLine o rules.holds) holds.custody.held → HasHeld o rules.holds (text ++ found) front holds.custody.held found
  pub played : (h : House) (bytes : ℕ) (r : Recovered) (new : List HeldCall) (b : IsBehind o h front bytes found r) →
      PlaysLines (rules_by ByDone rules.holds) o (begun_by front) front.base front.carried found holds.custody.held new → AreHeld rules.holds (ends_of scene b.steps ++ past) new

abbrev pub NextLeavesHeld : Type 0
NextLeavesHeld =
    (before after last : Table) (j : ℕ) (o : ObjectForm) (rules : RulesForm) (past : List Happened) (text found : List ℕ) (since : List Turn) →
    Gives before (Changes j text true) [] [] after → Runs Gives after since last → BeginsNone j since → Stood before j o → HoldsBy before j rules past →
    Begins found (added_by j since) → LeavesHeld after j o rules past text found

-- So it is of the front that a start writes for an object, of which no call waits, and of the lines of what it then holds.
abbrev pub StartLeavesHeld : Type 0
StartLeavesHeld =
    (t last : Table) (j : ℕ) (o : ObjectForm) (rules : RulesForm) (past : List Happened) (s : Scene) (events : List PastRun) (found : List ℕ) (since : List Turn) →
    slice_get t.objects.items j ≡ Some s → IsServed t j o (front_of s s.epoch events s.base) since → s.hall.waiting ≡ [] → s.carried ≡ [] → Runs Gives t since last →
    (h : HoldsBy t j rules past) → Begins found (added_by j since) →
    LeavesHeld t j o rules past (front_text o (front_of s s.epoch events s.base) ++ held_text o rules.holds h.custody.held) found
