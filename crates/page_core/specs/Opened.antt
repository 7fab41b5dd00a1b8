-- The parts of an object, from a shelf to a hand.
use Rattle.std.specs.Prelude.{◌≡◌, ℕ, ◌<◌, List, [], ◌∷◌, Option, Some, None, slice_get, codes}
use Rattle.std.specs.FinMap.{get}
use Rattle.value_core.specs.declared.kind.Kind.{Kind}
use Rattle.value_core.specs.Contents.{Contents}
use Rattle.value_core.specs.Meaning.{opening_of}
use Rattle.value_bytes.specs.Spelling.{Spells, SpellsInSome}
use Rattle.decl_core.specs.declared.object.Part.{Part}
use Rattle.device_core.specs.declared.hand.HandFault.{HandFault}
use Rattle.device_core.specs.declared.hand.HandFault.TheVariants as hand
use Rattle.device_core.specs.declared.hand.Stamp.{Stamp}
use Rattle.page_core.specs.declared.open.OpenFault.{OpenFault}
use Rattle.page_core.specs.declared.open.OpenFault.TheVariants.{Damaged, Device, Memory}
use Rattle.device_core.specs.Device.{Assignment}
use Rattle.device_core.specs.Papers.{Papers, part_key}
use Rattle.page_core.specs.Cut.{IsCut}
use Rattle.page_core.specs.Pages.{AreHeld}

abbrev pub open_fault_number : OpenFault → ℕ
open_fault_number (Damaged part) = 1
open_fault_number Device = 2
open_fault_number Memory = 3

abbrev pub open_fault_name : OpenFault → List ℕ
open_fault_name (Damaged part) = codes "Damaged"
open_fault_name Device = codes "Device"
open_fault_name Memory = codes "Memory"

-- a fault of a device while parts are opened
abbrev pub open_fault_of : HandFault → OpenFault
open_fault_of hand.Device = Device
open_fault_of hand.Memory = Memory

-- A part begins with the value that the bytes under its name spell, in one of the formats, and with the opening of its
-- kind where there are none.
abbrev pub BeginsWith : Kind → Option (List ℕ) → Contents → Type 0
BeginsWith kind None value = value ≡ opening_of kind
BeginsWith kind (Some bytes) value = SpellsInSome bytes kind value

-- the pages of a pin were sealed with those into which the spelling of a value is cut
pub record IsPinned (a : Assignment) (kind : Kind) (pin : List Stamp) (value : Contents) : Type 0 where
  pub bytes : List ℕ
  pub spells : Spells bytes kind value
  pub pages : List (List ℕ)
  pub cut : IsCut bytes pages
  pub sealed : AreHeld a pin pages

-- part by part: each part of the object of this name has its value from the shelf
abbrev pub AreLoaded : Papers → List ℕ → List Part → List Contents → Type 0
AreLoaded papers object [] [] = Unit {0}
AreLoaded papers object (part ∷ parts) (value ∷ values) =
    BeginsWith part.kind (get papers (part_key object part.name)) value × AreLoaded papers object parts values
AreLoaded papers object [] (value ∷ values) = ⊥
AreLoaded papers object (part ∷ parts) [] = ⊥

-- part by part: each pin was sealed with the spelling of its part's value
abbrev pub ArePinned : Assignment → List Part → List (List Stamp) → List Contents → Type 0
ArePinned a [] [] [] = Unit {0}
ArePinned a (part ∷ parts) (pin ∷ pins) (value ∷ values) =
    IsPinned a part.kind pin value × ArePinned a parts pins values
ArePinned a [] [] (value ∷ values) = ⊥
ArePinned a [] (pin ∷ pins) values = ⊥
ArePinned a (part ∷ parts) [] values = ⊥
ArePinned a (part ∷ parts) (pin ∷ pins) [] = ⊥

-- there are bytes, and they spell no value of this kind, in no format
pub record AreDamaged (kind : Kind) (found : Option (List ℕ)) : Type 0 where
  pub bytes : List ℕ
  pub there : found ≡ Some bytes
  pub unspelled : (value : Contents) → SpellsInSome bytes kind value → ⊥

-- there is a part of this number, and what stands under its name is damaged
pub record IsDamaged (papers : Papers) (object : List ℕ) (parts : List Part) (number : ℕ) : Type 0 where
  pub part : Part
  pub there : slice_get parts number ≡ Some part
  pub damaged : AreDamaged part.kind (get papers (part_key object part.name))

-- the part of this number is damaged, and none before it
pub record IsFirstDamaged (papers : Papers) (object : List ℕ) (parts : List Part) (number : ℕ) : Type 0 where
  pub here : IsDamaged papers object parts number
  pub first : (n : ℕ) → n < number → IsDamaged papers object parts n → ⊥

-- Why the parts of an object were not opened: a part is the first damaged one, whatever the shelf may hold, or a device
-- failed.
abbrev pub OpenCause : (Papers → Type 0) → List ℕ → List Part → Type 0 → OpenFault → Type 0
OpenCause holds object parts failed (Damaged number) =
    (papers : Papers) → holds papers → IsFirstDamaged papers object parts number
OpenCause holds object parts failed Device = failed
OpenCause holds object parts failed Memory = Unit {0}

-- why one part was not opened: it is damaged, whatever the shelf may hold, or a device failed, or memory was refused
abbrev pub PartCause : (Papers → Type 0) → List ℕ → Kind → ℕ → Type 0 → OpenFault → Type 0
PartCause holds key kind number failed (Damaged n) =
    (n ≡ number) × ((papers : Papers) → holds papers → AreDamaged kind (get papers key))
PartCause holds key kind number failed Device = failed
PartCause holds key kind number failed Memory = Unit {0}

-- why one pin was not made: a device failed, or memory was refused
abbrev pub PinCause : Type 0 → OpenFault → Type 0
PinCause failed (Damaged n) = ⊥
PinCause failed Device = failed
PinCause failed Memory = Unit {0}
