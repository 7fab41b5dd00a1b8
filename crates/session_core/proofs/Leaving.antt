-- Files that are retired later.
use Rattle.std.proofs.Common.{◌≡◌, List, [], subst, sym}
use Rattle.device_core.specs.declared.hand.Stamp.{Stamp}
use Rattle.device_core.specs.Made.{Made}
use Rattle.device_core.specs.Retired.{RetiresAll, none}
use Rattle.session_core.specs.Leaving.{RetiresLeft}

-- where none is left, none is retired
pub none_left : {H : Type 0} (makes : H → Made → H → Type 0) (hand : H) (left : List Stamp) → left ≡ [] → RetiresLeft makes hand left left hand
none_left makes hand left empty = ([], subst (λ w. RetiresAll makes hand w [] hand) (sym empty) none, empty)
