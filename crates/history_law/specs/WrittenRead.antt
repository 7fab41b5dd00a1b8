-- What is read of the lines that an object added.
use Rattle.std.specs.Prelude.{◌≡◌, ℕ, List, [], ◌++◌}
use Rattle.decl_core.specs.ObjectForm.{ObjectForm}
use Rattle.audit_core.specs.declared.verdict.AuditFault.{AuditFault}
use Rattle.live_core.specs.Front.{Opening}
use Rattle.audit_core.specs.Steps.{Step, nothing_heard}
use Rattle.recover_core.specs.declared.recover.House.{House}
use Rattle.recover_core.specs.declared.recover.Recovered.{Recovered}
use Rattle.recover_core.specs.declared.recover.RecoverFault.TheVariants as faults
use Rattle.recover_core.specs.Playing.{begun_by}
use Rattle.recover_core.specs.Recovered.{IsBehind, RefusesBehind}
use Rattle.live_core.specs.Scene.{Scene}
use Rattle.live_core.specs.HostedSteps as hosted
use Rattle.history_law.specs.Named.{IsNamed}
use Rattle.history_law.specs.Stands.{Stands}
use Rattle.history_law.specs.Happens.{all_happen}

-- What happened to an object since this front was written, and the bytes that this added behind it.
pub record Adds (o : ObjectForm) (f : Opening) (text : List ℕ) : Type 0 where
  pub names : IsNamed o
  pub old : Scene
  pub new : Scene
  pub all : hosted.Steps old text new
  pub stands : Stands o (begun_by f) nothing_heard old

-- What is recovered of the first of these bytes, however many, is the first steps of what happened.
abbrev pub FrontIsRead : Type 0
FrontIsRead =
    (o : ObjectForm) (h : House) (f : Opening) (bytes : ℕ) (text found more : List ℕ) (r : Recovered) (a : Adds o f text) →
    text ≡ found ++ more → (b : IsBehind o h f bytes found r) → (later : List Step) × (all_happen a.all [] ≡ later ++ b.steps)

-- What is recovered of all of them is what happened, all of it.
abbrev pub AllIsRead : Type 0
AllIsRead =
    (o : ObjectForm) (h : House) (f : Opening) (bytes : ℕ) (text : List ℕ) (r : Recovered) (a : Adds o f text) →
    (b : IsBehind o h f bytes text r) → all_happen a.all [] ≡ b.steps

-- What happened in two parts since this front was written, and the bytes that each added.
pub record AddsTwice (o : ObjectForm) (f : Opening) (stored more : List ℕ) : Type 0 where
  pub names : IsNamed o
  pub old : Scene
  pub mid : Scene
  pub new : Scene
  pub first : hosted.Steps old stored mid
  pub later : hosted.Steps mid more new
  pub stands : Stands o (begun_by f) nothing_heard old

-- What is recovered is all of the first part, and of the second one its first steps, however many.
pub record IsReadOf {o : ObjectForm} {f : Opening} {stored more : List ℕ} (a : AddsTwice o f stored more) (steps : List Step) : Type 0 where
  pub unread : List Step
  pub nothing_else : all_happen a.later (all_happen a.first []) ≡ unread ++ steps
  pub read : List Step
  pub all_stored : steps ≡ read ++ all_happen a.first []

-- It is recovered so of bytes that have all of the first part in them, and of the second one the first bytes.
abbrev pub StoredIsRead : Type 0
StoredIsRead =
    (o : ObjectForm) (h : House) (f : Opening) (bytes : ℕ) (stored more found extra lost : List ℕ) (r : Recovered) (a : AddsTwice o f stored more) →
    found ≡ stored ++ extra → stored ++ more ≡ found ++ lost → (b : IsBehind o h f bytes found r) → IsReadOf a b.steps

-- In none of their first bytes a line with a fault is found.
abbrev pub NoFaultIsFound : Type 0
NoFaultIsFound =
    (o : ObjectForm) (h : House) (f : Opening) (text found more : List ℕ) (before line : ℕ) (fault : AuditFault) → Adds o f text →
    text ≡ found ++ more → RefusesBehind o h f before found (faults.Line line fault) → ⊥
