-- What becomes of a page list whose part has other bytes.
use Rattle.std.specs.Prelude.{◌≡◌, ℕ, ◌<◌, ◌⊎◌, List, [], ◌∷◌, length, Some, slice_get, slice_set}
use Rattle.device_core.specs.declared.hand.Stamp.{Stamp}
use Rattle.device_core.specs.Device.{Assignment, Holds}
use Rattle.page_core.specs.declared.plan.PageWrite.{PageWrite}

-- one of these writes is of the page at this place, and has these bytes
abbrev pub IsWritten : List PageWrite → ℕ → List ℕ → Type 0
IsWritten [] k bytes = ⊥
IsWritten (write ∷ writes) k bytes = ((write.place ≡ k) × (write.bytes ≡ bytes)) ⊎ IsWritten writes k bytes

-- each of these writes is of one of these pages
abbrev pub AreOf : List (List ℕ) → List PageWrite → Type 0
AreOf pages [] = Unit {0}
AreOf pages (write ∷ writes) = (slice_get pages write.place ≡ Some write.bytes) × AreOf pages writes

-- each stamp of a new list is good at its place, for the page there, but where such a page is still to be written
pub record Renews (Good : ℕ → Stamp → List ℕ → Type 0) (pages : List (List ℕ)) (stamps : List Stamp)
    (writes : List PageWrite) : Type 0 where
  pub each : (k : ℕ) (stamp : Stamp) (bytes : List ℕ) → slice_get stamps k ≡ Some stamp →
      slice_get pages k ≡ Some bytes → Good k stamp bytes ⊎ IsWritten writes k bytes
  pub many : length stamps ≡ length pages
  pub of : AreOf pages writes

-- the stamps with those of the pages that were written, in the order of their writes
abbrev pub with_sealed : List Stamp → List PageWrite → List Stamp → List Stamp
with_sealed stamps [] sealed = stamps
with_sealed stamps (write ∷ writes) [] = stamps
with_sealed stamps (write ∷ writes) (stamp ∷ sealed) = with_sealed (slice_set stamps write.place stamp) writes sealed

-- the files that were sealed hold what was to be written, in order
abbrev pub AreSealed : Assignment → List PageWrite → List Stamp → Type 0
AreSealed a writes [] = Unit {0}
AreSealed a [] (stamp ∷ sealed) = ⊥
AreSealed a (write ∷ writes) (stamp ∷ sealed) = Holds a stamp write.bytes × AreSealed a writes sealed

-- each of these writes is of a place below this one
abbrev pub ArePlaces : ℕ → List PageWrite → Type 0
ArePlaces count [] = Unit {0}
ArePlaces count (write ∷ writes) = (write.place < count) × ArePlaces count writes

-- a stamp is one of these
abbrev pub IsIn : Stamp → List Stamp → Type 0
IsIn stamp [] = ⊥
IsIn stamp (first ∷ more) = (first ≡ stamp) ⊎ IsIn stamp more
