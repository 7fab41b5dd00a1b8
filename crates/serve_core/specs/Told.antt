-- What is told of value files that were moved.
use Rattle.std.specs.Prelude.{◌≡◌, ◌∷◌, [], ◌++◌, ◌&&◌, ℕ, List, Bool, true, false, Option, Some, None, take, codes}
use Rattle.std.specs.Prelude.{decimal}
use Rattle.std.specs.Io.KnownBytes.{Appends}
use Rattle.serve_core.specs.Numbers.{value_name}

-- ` N.val` of each of these
abbrev pub values_text : List ℕ → List ℕ
values_text [] = []
values_text (number ∷ numbers) = (codes " " ++ value_name number) ++ values_text numbers

-- a line of value files, after a front
abbrev pub values_line : List ℕ → List ℕ → List ℕ
values_line front numbers = front ++ (values_text numbers ++ codes "\n")

-- The line of these value files was written, whole where that is told, and else a front of it; where there are none,
-- nothing.
abbrev pub Tells : List ℕ → List ℕ → Bool → Option (List ℕ) → Option (List ℕ) → Type 0
Tells front [] told old new = (told ≡ true) × (new ≡ old)
Tells front (number ∷ numbers) true old new = Appends old new (values_line front (number ∷ numbers))
Tells front (number ∷ numbers) false old new =
    (count : ℕ) × Appends old new (take count (values_line front (number ∷ numbers)))

-- `moved to left/K:`
abbrev pub moved_front : ℕ → List ℕ
moved_front left = codes "moved to left/" ++ (decimal left ++ codes ":")

-- the line of those that were moved into that folder; where there is no folder, nothing
abbrev pub TellsMoved : Option ℕ → List ℕ → Bool → Option (List ℕ) → Option (List ℕ) → Type 0
TellsMoved None there told old new = (told ≡ true) × (new ≡ old)
TellsMoved (Some left) there told old new = Tells (moved_front left) there told old new

-- The line of those that were moved, and then that of those that stay.
pub record AreTold (left : Option ℕ) (there stays : List ℕ) (told : Bool) (old new : Option (List ℕ)) : Type 0 where
  pub between : Option (List ℕ)
  pub first : Bool
  pub second : Bool
  pub moved : TellsMoved left there first old between
  pub stay : Tells (codes "not moved:") stays second between new
  pub both : told ≡ (first && second)
