-- New pins that can be published.
use Rattle.std.specs.Prelude.{◌≡◌, ℕ, ◌<◌, ◌≤◌, List, length, Option, Some, None, slice_set}
use Rattle.device_core.specs.declared.hand.Stamp.{Stamp}
use Rattle.page_core.specs.PartPins.{PartPin, pin_at}

-- each of these pins is of one of so many parts, and has as many pages as a page list may have
abbrev pub ArePageLists : ℕ → List PartPin → Type 0
ArePageLists parts news =
    (p : ℕ) (pages : List Stamp) → pin_at news p ≡ Some pages → (p < parts) × (0 < length pages) × (length pages ≤ 8)

-- the pins with another one of this part, where there is one
abbrev pub with_pin : List (List Stamp) → ℕ → Option (List Stamp) → List (List Stamp)
with_pin pins p None = pins
with_pin pins p (Some pages) = slice_set pins p pages
