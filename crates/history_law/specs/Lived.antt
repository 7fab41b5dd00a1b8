-- An object of a table over all its epochs, and over all its lives.
use Rattle.std.specs.Prelude.{◌≡◌, ◌⊎◌, ◌<◌, ◌≤◌, ℕ, true, List, [], ◌∷◌, ◌++◌, Option, Some, slice_get}
use Rattle.value_core.specs.Contents.{Contents}
use Rattle.decl_core.specs.declared.object.Object.{Object}
use Rattle.decl_core.specs.ObjectForm.{ObjectForm}
use Rattle.decl_core.specs.ObjectMap.{object_of}
use Rattle.apply_core.specs.History.{End}
use Rattle.live_core.specs.declared.call.Limits.{Limits}
use Rattle.live_core.specs.Front.{Opening}
use Rattle.live_core.specs.Text.{front_text}
use Rattle.audit_core.specs.Steps.{Begun, Heard, told_by}
use Rattle.recover_core.specs.declared.recover.House.{House}
use Rattle.recover_core.specs.declared.recover.Recovered.{Recovered}
use Rattle.recover_core.specs.Playing.{begun_by}
use Rattle.recover_core.specs.Text.{IsRead}
use Rattle.live_core.specs.Fronts.{AddsFirst, front_of}
use Rattle.live_core.specs.Scene.{Scene}
use Rattle.keep_core.specs.Behind.{BeginsBehind}
use Rattle.history_law.specs.Named.{IsNamed}
use Rattle.history_law.specs.Stands.{Stands}
use Rattle.history_law.specs.Year.{Epoch, epoch_of, AreEpochs, IsSound, all_ends, first_opening}
use Rattle.history_law.specs.Read.{IsReadOf}
use Rattle.keep_loop.specs.Turns.{Turn, Runs}
use Rattle.keep_loop.specs.declared.keep.LoopLimits.{LoopLimits as LoopLimits}
use Rattle.keep_loop.specs.Seen.{Happened}
use Rattle.keep_loop.specs.Epochs.{rules_of, since_in, stored_since, BeginsNone, change_to}
use Rattle.keep_loop.specs.Stands.{IsHonest, IsBetween}
use Rattle.client_core.specs.Custody.{Custody, held_lines}
use Rattle.table_core.specs.Moves.{Gives, Fronts}
use Rattle.table_core.specs.declared.table.Table.{Table}
use Rattle.history_law.specs.Kept.{Stood, LeavesAnswered}

-- An object at a place of a table stands in an epoch that began so, and it had these epochs before, the newest first: each
-- follows the one before it.
pub record HasLived (t : Table) (j : ℕ) (o : ObjectForm) (begun : Begun) (earlier : List Epoch) : Type 0 where
  pub scene : Scene
  pub there : slice_get t.objects.items j ≡ Some scene
  pub names : IsNamed o
  pub heard : Heard
  pub stands : Stands o begun heard scene
  pub base : ℕ
  pub epochs : AreEpochs o (epoch_of scene.hall (told_by begun heard.steps) base) earlier

-- the epoch in which it stands
abbrev pub epoch_in : {t : Table} {j : ℕ} {o : ObjectForm} {begun : Begun} {earlier : List Epoch} → HasLived t j o begun earlier → Epoch
epoch_in {begun = begun} l = epoch_of l.scene.hall (told_by begun l.heard.steps) l.base

-- One that stands has lived in the epoch in which it stands.
abbrev pub StoodHasLived : Type 0
StoodHasLived = (t : Table) (j : ℕ) (o : ObjectForm) (s : Stood t j o) → HasLived t j o s.begun []

-- the last change of its epochs among these turns was by a front that tells of this beginning, and lines of what is held
pub record BeganBy (o : ObjectForm) (j : ℕ) (turns : List Turn) (now : Begun) : Type 0 where
  pub front : Opening
  pub held : Option Custody
  pub before : List Turn
  pub since : List Turn
  pub cut : turns ≡ before ++ change_to j (front_text o front ++ held_lines o held) ∷ since
  pub none : BeginsNone j since
  pub is : now ≡ begun_by front

-- it is the same epoch as before these turns, or one that began in them
abbrev pub IsBegunIn : ObjectForm → ℕ → List Turn → Begun → Begun → Type 0
IsBegunIn o j turns was now = (BeginsNone j turns × (now ≡ was)) ⊎ BeganBy o j turns now

-- It has lived on over turns. All its starts and ends, from its first epoch on, are one trace, each prefix of which satisfies
-- every path; the ends are one legal history, which leads from the first opening contents to those of now. What had been
-- done stays done: the ends of before are the first of them.
pub record LivesOn (last : Table) (j : ℕ) (o : ObjectForm) (turns : List Turn) (was : Begun) (opening : List Contents) (ends : List End) : Type 0 where
  pub begun : Begun
  pub by : IsBegunIn o j turns was begun
  pub earlier : List Epoch
  pub lived : HasLived last j o begun earlier
  pub sound : IsSound o (epoch_in lived) earlier
  pub opening_is : first_opening (epoch_in lived) earlier ≡ opening
  pub done : List End
  pub ends_are : all_ends o (epoch_in lived) earlier ≡ ends ++ done

-- So it is over any turns, in which it begins any number of epochs.
abbrev pub TurnsLiveOn : Type 0
TurnsLiveOn =
    (first last : Table) (turns : List Turn) (j : ℕ) (o : ObjectForm) (begun : Begun) (earlier : List Epoch) → Runs Gives first turns last →
    (l : HasLived first j o begun earlier) → LivesOn last j o turns begun (first_opening (epoch_in l) earlier) (all_ends o (epoch_in l) earlier)

-- What is read of a text whose front tells the beginning of its last epoch, however much of the lines behind that a crash has
-- left, is an epoch behind the same ones. Where lines of what is held stood behind the front, it is the text without these.
abbrev pub ReadLivesOn : Type 0
ReadLivesOn =
    (t : Table) (j : ℕ) (o : ObjectForm) (begun : Begun) (earlier : List Epoch) (h : House) (front : Opening) (text : List ℕ) (came : Recovered)
    (l : HasLived t j o begun earlier) → begun ≡ begun_by front → IsRead o h text front came →
    (e : Epoch) × IsReadOf o text came e × AreEpochs o e earlier × IsSound o e earlier

-- An object of a new life has begun behind the lines of its journal, without those of what was held, and has added the front
-- of its epoch.
pub record BeginsAt (t : Table) (j : ℕ) (object : Object) (h : House) (lines : List ℕ) (limits : Limits) : Type 0 where
  pub scene : Scene
  pub there : slice_get t.objects.items j ≡ Some scene
  pub names : IsNamed (object_of object)
  pub begins : BeginsBehind object h lines limits scene
  pub before : List ℕ
  pub after : List ℕ
  pub adds : AddsFirst scene before after
  pub few : limits.sessions ≤ 65535
  pub known : h.sessions ≤ 65535

-- It has lived in the epoch that was read of these lines, and in all that were before that: those of the lives before are its
-- own.
abbrev pub StartLivesOn : Type 0
StartLivesOn =
    (t : Table) (j : ℕ) (object : Object) (h : House) (lines : List ℕ) (limits : Limits) (b : BeginsAt t j object h lines limits)
    (e : Epoch) (earlier : List Epoch) → IsReadOf (object_of object) lines b.begins.came e → AreEpochs (object_of object) e earlier →
    HasLived t j (object_of object) (begun_by (front_of b.scene b.scene.epoch b.adds.tells.runs b.scene.base)) (e ∷ earlier)

-- A crash leaves one history of turns: each turn does what its line asks for, and each connection was written a front of what
-- it is told there; what is recovered of each object is of this history, and has each turn of which a connection may have read;
-- and over it, and all lives before, the object's starts and ends satisfy every path at each moment, and its ends are one legal
-- history.
pub record LeavesOneHistory (first : Table) (limits : LoopLimits) (seen : List Happened) (found : ℕ → List ℕ) : Type 0 where
  pub answered : LeavesAnswered first limits seen found
  pub lived : (j : ℕ) (o : ObjectForm) (begun : Begun) (earlier : List Epoch) (l : HasLived first j o begun earlier) →
      LivesOn answered.left.survives.last j o (answered.left.survives.answered ++ answered.left.survives.later) begun
      (first_opening (epoch_in l) earlier) (all_ends o (epoch_in l) earlier)

-- So it does at each moment of a loop that is honest, where answers wait for the disk.
abbrev pub CrashLeavesOneHistory : Type 0
CrashLeavesOneHistory =
    (first : Table) (limits : LoopLimits) (seen : List Happened) (found : ℕ → List ℕ) → limits.waits ≡ true →
    IsHonest (rules_of Gives Fronts) first limits seen →
    ((j : ℕ) → j < limits.journals → IsBetween (stored_since j seen) (since_in j seen) (found j)) →
    LeavesOneHistory first limits seen found
