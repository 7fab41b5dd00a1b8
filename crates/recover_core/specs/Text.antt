-- What is recovered of the text of a journal.
use Rattle.std.specs.Prelude.{◌≡◌, ◌⊎◌, ℕ, List, [], ◌++◌, length}
use Rattle.decl_core.specs.ObjectForm.{ObjectForm}
use Rattle.live_core.specs.Front.{Opening, HasRows}
use Rattle.live_core.specs.Text.{front_text}
use Rattle.recover_core.specs.declared.recover.House.{House}
use Rattle.recover_core.specs.declared.recover.Recovered.{Recovered}
use Rattle.recover_core.specs.declared.recover.RecoverFault.{RecoverFault}
use Rattle.recover_core.specs.declared.recover.RecoverFault.TheVariants as faults
use Rattle.recover_core.specs.Lines.{line_ends}
use Rattle.recover_core.specs.Recovered.{IsBehind, RefusesBehind}

-- A text is that of this front and of whole lines behind it, and this is recovered of them.
pub record IsRead (o : ObjectForm) (h : House) (text : List ℕ) (f : Opening) (r : Recovered) : Type 0 where
  pub rows : HasRows o f
  pub behind : List ℕ
  pub text_is : text ≡ front_text o f ++ behind
  pub is : IsBehind o h f (length (front_text o f)) behind r
  pub whole : is.rest ≡ []

-- it is that of some front
abbrev pub IsRecovered : ObjectForm → House → List ℕ → Recovered → Type 0
IsRecovered o h text r = (f : Opening) × IsRead o h text f r

-- why nothing is recovered of a text
abbrev pub Refuses : ObjectForm → House → List ℕ → RecoverFault → Type 0
Refuses o h text fault = ((line : ℕ) × (fault ≡ faults.Front line))
    ⊎ ((f : Opening) × (behind : List ℕ) × HasRows o f × (text ≡ front_text o f ++ behind)
    × RefusesBehind o h f (line_ends (front_text o f)) behind fault)

-- a text begins with a front of this epoch
abbrev pub BeginsEpoch : ObjectForm → List ℕ → ℕ → Type 0
BeginsEpoch o text epoch = (f : Opening) × (rest : List ℕ) × HasRows o f × (text ≡ front_text o f ++ rest) × (epoch ≡ f.epoch)
