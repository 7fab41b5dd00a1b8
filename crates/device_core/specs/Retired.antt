-- Files that are retired one after another.
use Rattle.std.specs.Prelude.{◌≡◌, List, [], ◌∷◌, ◌++◌, map, Ok, Err}
use Rattle.device_core.specs.declared.hand.HandFault.{HandFault}
use Rattle.device_core.specs.declared.hand.Stamp.{Stamp}
use Rattle.device_core.specs.Made.{Made, retires}

-- A file that is left, and why its retire failed.
abbrev pub Left : Type 0
Left = Stamp × HandFault

-- Each of these files was retired once, in order, by calls from this hand on: those whose retire
-- failed are left, in order.
pub data RetiresAll {H : Type 0} (makes : H → Made → H → Type 0) (old : H) : List Stamp → List Left → H → Type 0 where
  none : RetiresAll makes old [] [] old
  went : (stamps : List Stamp) (left : List Left) (hand next : H) (stamp : Stamp)
      → RetiresAll makes old stamps left hand → makes hand (retires stamp (Ok tt)) next →
      RetiresAll makes old (stamps ++ stamp ∷ []) left next
  failed : (stamps : List Stamp) (left : List Left) (hand next : H) (stamp : Stamp) (fault : HandFault)
      → RetiresAll makes old stamps left hand → makes hand (retires stamp (Err fault)) next →
      RetiresAll makes old (stamps ++ stamp ∷ []) (left ++ (stamp, fault) ∷ []) next

-- the files that are left
abbrev pub files_left : List Left → List Stamp
files_left left = map (λ x. x.0) left

-- some of these, in the same order
pub data AreSome {X : Type 0} : List X → List X → Type 0 where
  nothing : AreSome [] []
  without : (xs ys : List X) (y : X) → AreSome xs ys → AreSome xs (ys ++ y ∷ [])
  with : (xs ys : List X) (y : X) → AreSome xs ys → AreSome (xs ++ y ∷ []) (ys ++ y ∷ [])
