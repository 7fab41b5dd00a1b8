-- Marks for the places of a history.
use Rattle.std.specs.Prelude.{ℕ, zero, suc, List, [], ◌∷◌, slice_set, Bool, true}
use Rattle.office_core.specs.Slips.{Told}

-- marks with one for this place; places count from 1, and beyond the last one none is set
abbrev pub mark_at : List Bool → ℕ → List Bool
mark_at row zero = row
mark_at row (suc k) = slice_set row k true

-- marks with one for the place of each of these slips
abbrev pub marked : List Bool → List Told → List Bool
marked row [] = row
marked row (t ∷ slips) = marked (mark_at row t.place) slips
