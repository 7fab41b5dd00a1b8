-- Which pages are known, as a list of masks.
use Rattle.std.specs.Prelude.{◌≡◌, ℕ, List, length}
use Rattle.std.proofs.Common.{refl}
use Rattle.known_core.specs.declared.pages.Pages.TheInside.{Inside}

abbrev pub masks_of : Inside → List ℕ
masks_of a = a.masks

-- one for each of 16 parts
abbrev pub AreMasks : Inside → Type 0
AreMasks a = length a.masks ≡ 16

abbrev pub row_of : List ℕ → Inside
row_of masks = record { masks = masks }

pub row_again : (a : Inside) → AreMasks a → row_of (masks_of a) ≡ a
row_again a is = refl
