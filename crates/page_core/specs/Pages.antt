-- Pages in files.
use Rattle.std.specs.Prelude.{◌≡◌, ℕ, List, [], ◌∷◌, ◌++◌, length, Some, slice_get}
use Rattle.device_core.specs.declared.hand.Stamp.{Stamp}
use Rattle.device_core.specs.Device.{Assignment, Holds, AreServed}
use Rattle.page_core.specs.Bytes.{AreCutBy}

-- page by page: each file was sealed with its page
abbrev pub AreHeld : Assignment → List Stamp → List (List ℕ) → Type 0
AreHeld a [] [] = Unit {0}
AreHeld a (stamp ∷ stamps) (page ∷ pages) = Holds a stamp page × AreHeld a stamps pages
AreHeld a [] (page ∷ pages) = ⊥
AreHeld a (stamp ∷ stamps) [] = ⊥

-- each page of each of these pins can be read
abbrev pub ArePinsServed : (Stamp → Type 0) → List (List Stamp) → Type 0
ArePinsServed serves pins = (p : ℕ) (pin : List Stamp) → slice_get pins p ≡ Some pin → AreServed serves pin

-- some bytes were cut into pages of a size, and each was sealed in a file of its own; their stamps stand, in order,
-- behind those of before
pub record ArePut (agrees : Assignment → Type 0) (serves : Stamp → Type 0) (size : ℕ) (bytes : List ℕ)
    (before after : List Stamp) : Type 0 where
  pub pages : List (List ℕ)
  pub cut : AreCutBy size bytes pages
  pub stamps : List Stamp
  pub behind : after ≡ before ++ stamps
  pub many : length stamps ≡ length pages
  pub held : (a : Assignment) → agrees a → AreHeld a stamps pages
  pub served : AreServed serves stamps
