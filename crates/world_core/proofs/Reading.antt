-- Pages that are read.
use Rattle.std.proofs.Common.{◌≡◌, ℕ, suc, List, ◌∷◌, ◌++◌, Some, ◌∙◌, ap}
use Rattle.std.specs.Prelude.{slice_get}
use Rattle.device_core.specs.declared.hand.Stamp.{Stamp}
use Rattle.device_core.specs.Device.{Assignment, AreServed, bytes_of}
use Rattle.page_core.specs.Bytes.{list_bytes, one_behind}

-- the bytes of a page list are those of its first page, and those of the others behind them
pub list_more : (a : Assignment) (pages more : List Stamp) (page : Stamp) (bytes rest : List ℕ) → pages ≡ page ∷ more → bytes_of a page ≡ Some bytes → list_bytes a more ≡ Some rest → list_bytes a pages ≡ Some (bytes ++ rest)
list_more a pages more page bytes rest is first others = ap (list_bytes a) is ∙ ap (λ b. one_behind b (list_bytes a more)) first ∙ ap (one_behind (Some bytes)) others

-- each of them can be read where all can
pub first_served : (serves : Stamp → Type 0) (pages more : List Stamp) (page : Stamp) → pages ≡ page ∷ more → AreServed serves pages → serves page
first_served serves pages more page is all = all 0 page (ap (λ (l : List Stamp). slice_get l 0) is)

pub others_served : (serves : Stamp → Type 0) (pages more : List Stamp) (page : Stamp) → pages ≡ page ∷ more → AreServed serves pages → AreServed serves more
others_served serves pages more page is all = λ p stamp there. all (suc p) stamp (ap (λ (l : List Stamp). slice_get l (suc p)) is ∙ there)
