-- What a server does to the value files of its folder.
use Rattle.std.proofs.Common.{◌≡◌, refl, subst, arith, inl, inr, ℕ, ◌<◌, List, [], ◌∷◌, length, Option, Result, Err}
use Rattle.value_core.specs.declared.machine.LinesFault.{LinesFault}
use Rattle.value_core.specs.declared.machine.LinesFault.TheVariants.{Memory}
use Rattle.serve_core.specs.Deeds.{Deed, MovesLeft}
use Rattle.serve_core.specs.declared.serve.ServeEnd.{ServeEnd}
use Rattle.serve_core.specs.Tidies.{MovesFound}

-- memory for that was refused
pub moved_not : {V : Type 0} (does : V → Deed → V → Type 0) (old new : V) (found : List ℕ) → new ≡ old → MovesFound does old found (Err Memory) new
moved_not does old new [] same = same
moved_not does old new (number ∷ numbers) same = inl (same, refl)

-- those that were found are moved
pub moved_all : {V : Type 0} (does : V → Deed → V → Type 0) (old new : V) (found numbers : List ℕ) (end : Result ServeEnd LinesFault) → numbers ≡ found → (numbers ≡ [] → new ≡ old) →
    (0 < length numbers → (left : Option ℕ) × (there : List ℕ) × (stays : List ℕ) × MovesLeft does old numbers left there stays new) → MovesFound does old found end new
moved_all does old new found numbers end same none some = subst (λ (ns : List ℕ). MovesFound does old ns end new) same (all numbers none some) where
  all : (ns : List ℕ) → (ns ≡ [] → new ≡ old) → (0 < length ns → (left : Option ℕ) × (there : List ℕ) × (stays : List ℕ) × MovesLeft does old ns left there stays new) → MovesFound does old ns end new
  all [] none some = none refl
  all (number ∷ ns) none some = inr (some (omega arith))
