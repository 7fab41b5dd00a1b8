-- The files that calls leave, and that are retired later.
use Rattle.std.specs.Prelude.{◌≡◌, ◌⊎◌, List, ◌++◌}
use Rattle.device_core.specs.declared.hand.Stamp.{Stamp}
use Rattle.device_core.specs.Made.{Made}
use Rattle.device_core.specs.Retired.{Left, RetiresAll, files_left}

-- each file that was left was retired once, in order, and those whose retire failed are left
abbrev pub RetiresLeft : {H : Type 0} → (H → Made → H → Type 0) → H → List Stamp → List Stamp → H → Type 0
RetiresLeft makes old left after new = (failed : List Left) × RetiresAll makes old left failed new × (after ≡ files_left failed)

-- these files are left behind those that were; or, where memory was refused, each was retired once, in order
abbrev pub PutsOff : {H : Type 0} → (H → Made → H → Type 0) → H → List Stamp → List Stamp → List Stamp → H → Type 0
PutsOff makes old free left after new =
    ((new ≡ old) × (after ≡ left ++ free))
    ⊎ ((after ≡ left) × ((failed : List Left) × RetiresAll makes old free failed new))
