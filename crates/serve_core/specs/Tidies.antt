-- What a server does to the value files of its folder.
use Rattle.std.specs.Prelude.{◌≡◌, ◌⊎◌, ℕ, List, [], ◌∷◌, Bool, IsTrue, Option, Result, Err}
use Rattle.value_core.specs.declared.machine.LinesFault.{LinesFault}
use Rattle.value_core.specs.declared.machine.LinesFault.TheVariants.{Memory}
use Rattle.serve_core.specs.Deeds.{Deed, RemovesAll, MovesLeft}
use Rattle.serve_core.specs.Numbers.{AreBetween}
use Rattle.serve_core.specs.declared.serve.ServeEnd.{ServeEnd}

-- Files that an earlier run left are moved aside, each once, where there are any; or memory for that is refused, and
-- nothing is done.
abbrev pub MovesFound : {V : Type 0} → (V → Deed → V → Type 0) → V → List ℕ → Result ServeEnd LinesFault → V → Type 0
MovesFound does old [] end new = new ≡ old
MovesFound does old (number ∷ numbers) end new =
    ((new ≡ old) × (end ≡ Err Memory))
    ⊎ ((left : Option ℕ) × (there : List ℕ) × (stays : List ℕ)
    × MovesLeft does old (number ∷ numbers) left there stays new)

-- Those that were found are moved aside. At the end files of this run may be removed, none of which has a number below
-- its first one; none is removed where an object was not saved and traced.
pub record TidiesValues {V : Type 0} (does : V → Deed → V → Type 0) (old : V) (found : List ℕ) (first : ℕ)
    (keeps : Bool) (end : Result ServeEnd LinesFault) (new : V) : Type 0 where
  pub mid : V
  pub moved : MovesFound does old found end mid
  pub own : (new ≡ mid)
      ⊎ (IsTrue keeps × ((last : ℕ) × (own : List ℕ) × AreBetween first last own × RemovesAll does mid own new))
