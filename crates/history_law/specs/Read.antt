-- Epochs that are read of texts.
use Rattle.std.specs.Prelude.{◌≡◌, ℕ, List, [], ◌∷◌}
use Rattle.decl_core.specs.ObjectForm.{ObjectForm}
use Rattle.live_core.specs.Front.{Opening}
use Rattle.audit_core.specs.Steps.{told_by}
use Rattle.recover_core.specs.declared.recover.House.{House}
use Rattle.recover_core.specs.declared.recover.Recovered.{Recovered}
use Rattle.recover_core.specs.Playing.{begun_by}
use Rattle.recover_core.specs.Text.{IsRead}
use Rattle.recover_core.specs.Epochs as chains
use Rattle.recover_core.specs.declared.epochs.Epochs.{Epochs}
use Rattle.history_law.specs.Year.{Epoch, IsEpoch, AreEpochs, IsSound}

-- This epoch is what a text tells, and this was recovered of it: what its front says it began with, and the steps of the
-- lines behind that.
pub record IsReadOf (o : ObjectForm) (text : List ℕ) (came : Recovered) (e : Epoch) : Type 0 where
  pub house : House
  pub front : Opening
  pub read : IsRead o house text front came
  pub told : e.told ≡ told_by (begun_by front) read.is.steps
  pub counters : e.counters ≡ came.played.counters
  pub contents : e.contents ≡ came.played.contents.items

-- It is an epoch.
abbrev pub ReadIsEpoch : Type 0
ReadIsEpoch = (o : ObjectForm) (text : List ℕ) (came : Recovered) (e : Epoch) → IsReadOf o text came e → IsEpoch o e

-- each of these epochs is what its text tells
abbrev pub AreReadOf : ObjectForm → List (List ℕ) → List Epoch → Type 0
AreReadOf o [] [] = Unit {0}
AreReadOf o [] (e ∷ all) = ⊥
AreReadOf o (text ∷ texts) [] = ⊥
AreReadOf o (text ∷ texts) (e ∷ all) = ((came : Recovered) × IsReadOf o text came e) × AreReadOf o texts all

-- what texts tell, the newest first: epochs of the object, which are sound
pub record TellEpochs (o : ObjectForm) (text : List ℕ) (texts : List (List ℕ)) : Type 0 where
  pub last : Epoch
  pub earlier : List Epoch
  pub told : AreReadOf o (text ∷ texts) (last ∷ earlier)
  pub epochs : AreEpochs o last earlier
  pub sound : IsSound o last earlier

-- So do texts that were found to be those of epochs each of which may follow the one before it.
abbrev pub TextsAreEpochs : Type 0
TextsAreEpochs =
    (o : ObjectForm) (text : List ℕ) (texts : List (List ℕ)) (all : Epochs) → chains.AreEpochs o (text ∷ texts) all →
    TellEpochs o text texts
