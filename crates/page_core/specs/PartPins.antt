-- The pins of some parts of an object, and how they are kept one behind the other.
use Rattle.std.specs.Prelude.{◌≡◌, ℕ, zero, suc, ◌+◌, ◌==◌, Bool, true, false, if◌then◌else◌, List, [], ◌∷◌, length}
use Rattle.std.specs.Prelude.{take, drop, Option, Some, None}
use Rattle.std.specs.Int.{bit_at}
use Rattle.device_core.specs.declared.hand.Stamp.{Stamp}
use Rattle.page_core.specs.declared.part_pins.PartPins.TheInside.{Inside}
use Rattle.page_core.specs.Cut.{together}

-- the pin of a part: its pages
pub record PartPin : Type 0 where
  pub part : ℕ
  pub pages : List Stamp

-- of stamps, the pins of the parts from this one on, as many stamps each as its count; a part
-- without a stamp has no pin
abbrev pub pins_by : ℕ → List ℕ → List Stamp → List PartPin
pins_by p [] stamps = []
pins_by p (zero ∷ counts) stamps = pins_by (p + 1) counts stamps
pins_by p (suc n ∷ counts) stamps =
    record { part = p; pages = take (suc n) stamps } ∷ pins_by (p + 1) counts (drop (suc n) stamps)

abbrev pub part_pins_of : Inside → List PartPin
part_pins_of a = pins_by 0 a.counts a.stamps.items

-- there is a count for each part, and they count the stamps
pub record IsKept (a : Inside) : Type 0 where
  pub each : length a.counts ≡ 16
  pub counted : together a.counts ≡ length a.stamps.items

-- the pages of a part, where it has a pin
abbrev pub pin_at : List PartPin → ℕ → Option (List Stamp)
pin_at [] p = None
pin_at (pin ∷ pins) p = if pin.part == p then Some pin.pages else pin_at pins p

-- one more in front, if so
abbrev pub put_if : {X : Type 0} → Bool → X → List X → List X
put_if true x xs = x ∷ xs
put_if false x xs = xs

-- of page lists, the first of which is of part p, those of the parts in a set, each with its part
abbrev pub pins_in : ℕ → ℕ → List (List Stamp) → List PartPin
pins_in parts p [] = []
pins_in parts p (pages ∷ more) =
    put_if (bit_at parts p == 1) (record { part = p; pages = pages }) (pins_in parts (p + 1) more)

-- as many stamps as those of so many parts that are in a set may have, of which the first is p
abbrev pub room_in : ℕ → ℕ → ℕ → ℕ
room_in parts p zero = 0
room_in parts p (suc n) = (if bit_at parts p == 1 then 8 else 0) + room_in parts (p + 1) n

-- how many pages pins have
abbrev pub count_pages : List PartPin → ℕ
count_pages [] = 0
count_pages (pin ∷ pins) = length pin.pages + count_pages pins

-- the stamps of a page list that is added, or none
abbrev pub added_if : Bool → List Stamp → List Stamp
added_if true pages = pages
added_if false pages = []
