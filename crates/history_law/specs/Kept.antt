-- What a crash leaves of the objects of a table that a loop serves.
use Rattle.std.specs.Prelude.{◌≡◌, ◌⊎◌, ◌<◌, ℕ, true, Option, Some, None, List, [], ◌∷◌, ◌++◌, slice_get}
use Rattle.decl_core.specs.ObjectForm.{ObjectForm}
use Rattle.decl_core.specs.ObjectMap.{object_of}
use Rattle.live_core.specs.Front.{Opening}
use Rattle.audit_core.specs.declared.verdict.AuditFault.{AuditFault}
use Rattle.audit_core.specs.Steps.{Step, Begun, Heard, nothing_heard}
use Rattle.recover_core.specs.declared.recover.House.{House}
use Rattle.recover_core.specs.declared.recover.Recovered.{Recovered}
use Rattle.recover_core.specs.declared.recover.RecoverFault.TheVariants as faults
use Rattle.recover_core.specs.Playing.{begun_by}
use Rattle.recover_core.specs.Recovered.{IsBehind, RefusesBehind}
use Rattle.live_core.specs.Fronts.{front_of, IsNextFront}
use Rattle.live_core.specs.Scene.{Scene, next_base, next_epoch}
use Rattle.live_core.specs.HostedSteps.{Steps, BeginsBy}
use Rattle.history_law.specs.Named.{IsNamed}
use Rattle.history_law.specs.Stands.{Stands}
use Rattle.history_law.specs.WrittenRead.{AddsTwice, IsReadOf}
use Rattle.keep_loop.specs.Texts.{Begins}
use Rattle.keep_loop.specs.Turns.{Turn, Runs, added_by}
use Rattle.keep_loop.specs.declared.keep.LoopLimits.{LoopLimits}
use Rattle.keep_loop.specs.Seen.{Happened}
use Rattle.keep_loop.specs.Epochs.{rules_of, front_in, since_in, stored_since, BeginsNone, change_to}
use Rattle.keep_loop.specs.Stands.{IsHonest, IsBetween, SurvivesSince}
use Rattle.client_core.specs.Custody.{held_lines}
use Rattle.table_core.specs.Moves.{Gives, Fronts}
use Rattle.table_core.specs.Seen.{seen}
use Rattle.table_core.specs.declared.table.Table.{Table}

-- An object that begins no epoch goes by steps, and the lines that turns add to its journal are those of them.
abbrev pub RunsAreSteps : Type 0
RunsAreSteps =
    (first last : Table) (turns : List Turn) (j : ℕ) (old : Scene) → Runs Gives first turns last → BeginsNone j turns →
    slice_get first.objects.items j ≡ Some old →
    (new : Scene) × (slice_get last.objects.items j ≡ Some new) × Steps old (added_by j turns) new

-- An object at a place of a table stands behind what lines told.
pub record Stood (t : Table) (j : ℕ) (o : ObjectForm) : Type 0 where
  pub scene : Scene
  pub there : slice_get t.objects.items j ≡ Some scene
  pub names : IsNamed o
  pub begun : Begun
  pub heard : Heard
  pub stands : Stands o begun heard scene

-- So it does at the end of turns in which it has begun any number of epochs.
abbrev pub ObjectsStand : Type 0
ObjectsStand = (first last : Table) (turns : List Turn) (j : ℕ) (o : ObjectForm) → Runs Gives first turns last → Stood first j o → Stood last j o

-- An object at a place, which stands behind a front when the history begins, and begins no epoch in it.
pub record IsServed (first : Table) (j : ℕ) (o : ObjectForm) (f : Opening) (turns : List Turn) : Type 0 where
  pub scene : Scene
  pub there : slice_get first.objects.items j ≡ Some scene
  pub names : IsNamed o
  pub stands : Stands o (begun_by f) nothing_heard scene
  pub goes_on : BeginsNone j turns

-- What happened to an object in some turns, and in those behind them; and these steps are all of the former, and the first
-- of the latter.
pub record IsRecoveredFrom (o : ObjectForm) (f : Opening) (j : ℕ) (ts us : List Turn) (steps : List Step) : Type 0 where
  pub adds : AddsTwice o f (added_by j ts) (added_by j us)
  pub read : IsReadOf adds steps

-- What is recovered of lines that have those of some turns, and of those of the turns behind them the first bytes, is that;
-- and no line with a fault is found.
pub record AreReadBetween (first : Table) (j : ℕ) (ts us : List Turn) (found : List ℕ) : Type 0 where
  pub recovered : (o : ObjectForm) (h : House) (f : Opening) (bytes : ℕ) (r : Recovered) → IsServed first j o f (ts ++ us) →
      (b : IsBehind o h f bytes found r) → IsRecoveredFrom o f j ts us b.steps
  pub readable : (o : ObjectForm) (h : House) (f : Opening) (before line : ℕ) (fault : AuditFault) → IsServed first j o f (ts ++ us) →
      RefusesBehind o h f before found (faults.Line line fault) → ⊥

abbrev pub LinesAreRead : Type 0
LinesAreRead =
    (first last : Table) (j : ℕ) (ts us : List Turn) (found : List ℕ) → Runs Gives first (ts ++ us) last →
    Begins (added_by j ts) found → Begins found (added_by j (ts ++ us)) → AreReadBetween first j ts us found

-- An object has begun its next epoch by this text: a front, which tells it as it then was, and behind that the lines of what
-- is held of it. It stands behind it; and turns go on from there.
pub record GoesOnBehind (j : ℕ) (o : ObjectForm) (text : List ℕ) (since : List Turn) (last : Table) : Type 0 where
  pub mid : Table
  pub runs : Runs Gives mid since last
  pub before : Scene
  pub after : Scene
  pub front : List ℕ
  pub told : text ≡ front ++ held_lines (object_of before.hall.object) (slice_get (seen mid).custody j)
  pub begun : BeginsBy before front after
  pub served : IsServed mid j o (front_of before (next_epoch before) begun.written.runs (next_base before)) since

-- So it is behind each change of epochs.
abbrev pub NextIsServed : Type 0
NextIsServed =
    (first last : Table) (j : ℕ) (o : ObjectForm) (earlier since : List Turn) (front : List ℕ) →
    Runs Gives first (earlier ++ change_to j front ∷ since) last → Stood first j o → BeginsNone j since →
    GoesOnBehind j o front since last

-- What is found behind the front by which an object last began an epoch. The turns since are two parts: the first has all
-- those of which a connection may have read an answer, and each that is not in it but was answered stood before the front.
pub record AreReadBehind (j : ℕ) (o : ObjectForm) (front : List ℕ) (answered later : List Turn) (last : Table) (found : List ℕ) : Type 0 where
  pub earlier : List Turn
  pub ts : List Turn
  pub us : List Turn
  pub cut : answered ++ later ≡ earlier ++ change_to j front ∷ (ts ++ us)
  pub all : (answered ≡ earlier ++ change_to j front ∷ ts) ⊎ ((rest : List Turn) × (earlier ≡ answered ++ rest) × (ts ≡ []))
  pub goes : GoesOnBehind j o front (ts ++ us) last
  pub read : AreReadBetween goes.mid j ts us found

abbrev pub ReadsInText : Table → ℕ → ObjectForm → Option (List ℕ) → List Turn → List Turn → Table → List ℕ → Type 0
ReadsInText first j o None answered later last found = AreReadBetween first j answered later found
ReadsInText first j o (Some front) answered later last found = AreReadBehind j o front answered later last found

-- What is found of an object whose journal has just begun anew, which it was not told: the text has a front that tells the
-- object as all turns leave it, and behind that the lines of what is held of it, and nothing stands behind that.
pub record IsReadAhead (j : ℕ) (o : ObjectForm) (text : List ℕ) (last : Table) (found : List ℕ) : Type 0 where
  pub stood : Stood last j o
  pub front : List ℕ
  pub told : text ≡ front ++ held_lines (object_of stood.scene.hall.object) (slice_get (seen last).custody j)
  pub written : IsNextFront stood.scene front
  pub nothing : found ≡ []
  pub recovered : (h : House) (f : Opening) (bytes : ℕ) (r : Recovered) → (b : IsBehind o h f bytes found r) → b.steps ≡ []
  pub readable : (h : House) (f : Opening) (before line : ℕ) (fault : AuditFault) → RefusesBehind o h f before found (faults.Line line fault) → ⊥

-- one or the other
abbrev pub IsFoundOf : Table → ℕ → ObjectForm → List Happened → List Turn → List Turn → Table → List ℕ → Type 0
IsFoundOf first j o seen answered later last found =
    ReadsInText first j o (front_in j seen) answered later last found
    ⊎ ((front : List ℕ) × (front_in j seen ≡ Some front) × IsReadAhead j o front last found)

-- What is found behind a crash is of one history, in which each turn does what its line asks for. Each connection was
-- written a front of what it is told there, no further than turns whose lines are all found, or stand before a front that
-- is. Of each object what is recovered behind its last front is all that happened in these turns since, and the first of what
-- happened in those behind them; or the front tells what they all led to. No line with a fault is found.
pub record LeavesAnswered (first : Table) (limits : LoopLimits) (seen : List Happened) (found : ℕ → List ℕ) : Type 0 where
  pub left : SurvivesSince (rules_of Gives Fronts) first limits seen found
  pub read : (j : ℕ) (o : ObjectForm) → j < limits.journals → Stood first j o →
      IsFoundOf first j o seen left.survives.answered left.survives.later left.survives.last (found j)

-- So it is after a crash at each moment of a loop that is honest, where answers wait for the disk.
abbrev pub CrashLeavesAnswered : Type 0
CrashLeavesAnswered =
    (first : Table) (limits : LoopLimits) (seen : List Happened) (found : ℕ → List ℕ) → limits.waits ≡ true →
    IsHonest (rules_of Gives Fronts) first limits seen →
    ((j : ℕ) → j < limits.journals → IsBetween (stored_since j seen) (since_in j seen) (found j)) →
    LeavesAnswered first limits seen found
