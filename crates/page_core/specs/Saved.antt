-- The parts of an object, from a hand to a shelf.
use Rattle.std.specs.Prelude.{◌≡◌, ℕ, ◌+◌, ◌<◌, ◌⊎◌, List, [], ◌∷◌, Option, Some, length, take, slice_get, codes}
use Rattle.std.specs.FinMap.{insert}
use Rattle.value_core.specs.declared.kind.Kind.{Kind}
use Rattle.value_core.specs.Contents.{Contents}
use Rattle.value_bytes.specs.Spelling.{Spells}
use Rattle.decl_core.specs.declared.object.Part.{Part}
use Rattle.device_core.specs.declared.hand.HandFault.{HandFault}
use Rattle.device_core.specs.declared.hand.HandFault.TheVariants as hand
use Rattle.device_core.specs.declared.hand.Stamp.{Stamp}
use Rattle.page_core.specs.declared.save.SaveFault.{SaveFault}
use Rattle.page_core.specs.declared.save.SaveFault.TheVariants.{Damaged, Device, Memory}
use Rattle.device_core.specs.Device.{Assignment}
use Rattle.device_core.specs.Papers.{Papers, part_key}
use Rattle.page_core.specs.Bytes.{list_bytes}

abbrev pub save_fault_number : SaveFault → ℕ
save_fault_number (Damaged part) = 1
save_fault_number (Device part) = 2
save_fault_number Memory = 3

abbrev pub save_fault_name : SaveFault → List ℕ
save_fault_name (Damaged part) = codes "Damaged"
save_fault_name (Device part) = codes "Device"
save_fault_name Memory = codes "Memory"

-- a fault of a device while this part is saved
abbrev pub save_fault_of : HandFault → ℕ → SaveFault
save_fault_of hand.Device number = Device number
save_fault_of hand.Memory number = Memory

-- these are the bytes under a pin, those of its pages in order, and they spell a value of the part's kind
pub record IsFetched (a : Assignment) (part : Part) (pin : List Stamp) (bytes : List ℕ) : Type 0 where
  pub there : list_bytes a pin ≡ Some bytes
  pub value : Contents
  pub spells : Spells bytes part.kind value

-- part by part, with one pin and one row of bytes each
abbrev pub AreFetched : Assignment → List Part → List (List Stamp) → List (List ℕ) → Type 0
AreFetched a [] [] [] = Unit {0}
AreFetched a (part ∷ parts) (pin ∷ pins) (bytes ∷ rest) = IsFetched a part pin bytes × AreFetched a parts pins rest
AreFetched a [] [] (bytes ∷ rest) = ⊥
AreFetched a [] (pin ∷ pins) rest = ⊥
AreFetched a (part ∷ parts) [] rest = ⊥
AreFetched a (part ∷ parts) (pin ∷ pins) [] = ⊥

-- the papers after bytes were stored for each part of the object of this name, in order
abbrev pub with_parts : Papers → List ℕ → List Part → List (List ℕ) → Papers
with_parts papers object [] rest = papers
with_parts papers object (part ∷ parts) [] = papers
with_parts papers object (part ∷ parts) (bytes ∷ rest) =
    with_parts (insert papers (part_key object part.name) bytes) object parts rest

-- there are bytes, and they are not what is written of a value of this kind
pub record AreUnspelled (kind : Kind) (found : Option (List ℕ)) : Type 0 where
  pub bytes : List ℕ
  pub there : found ≡ Some bytes
  pub unspelled : (value : Contents) → Spells bytes kind value → ⊥

-- there is a part of this number, and what stands under its pin is damaged
pub record IsDamagedPin (a : Assignment) (parts : List Part) (pins : List (List Stamp)) (number : ℕ) : Type 0 where
  pub part : Part
  pub pin : List Stamp
  pub part_there : slice_get parts number ≡ Some part
  pub pin_there : slice_get pins number ≡ Some pin
  pub damaged : AreUnspelled part.kind (list_bytes a pin)

-- Why the parts of an object were not saved: a pin's bytes are damaged, whatever assignment agrees, or a device failed
-- at a part.
abbrev pub SaveCause : (Assignment → Type 0) → List Part → List (List Stamp) → Type 0 → SaveFault → Type 0
SaveCause agrees parts pins failed (Damaged number) = (a : Assignment) → agrees a → IsDamagedPin a parts pins number
SaveCause agrees parts pins failed (Device number) = (number < length parts) × failed
SaveCause agrees parts pins failed Memory = Unit {0}

-- why one part was not saved: its pin's bytes are damaged, whatever assignment agrees, or a device failed, or memory
-- was refused
abbrev pub PinSaveCause : (Assignment → Type 0) → Part → List Stamp → ℕ → Type 0 → SaveFault → Type 0
PinSaveCause agrees part pin number failed (Damaged n) =
    (n ≡ number) × ((a : Assignment) → agrees a → AreUnspelled part.kind (list_bytes a pin))
PinSaveCause agrees part pin number failed (Device n) = (n ≡ number) × failed
PinSaveCause agrees part pin number failed Memory = Unit {0}

-- why the bytes of one part were not stored: a device failed, or memory was refused
abbrev pub StoreCause : ℕ → Type 0 → SaveFault → Type 0
StoreCause number failed (Damaged n) = ⊥
StoreCause number failed (Device n) = (n ≡ number) × failed
StoreCause number failed Memory = Unit {0}

-- the papers hold the first parts, so many, each with the bytes under its pin; else they are those of before
pub record IsSavedTo (agrees : Assignment → Type 0) (before papers : Papers) (object : List ℕ) (parts : List Part)
    (pins : List (List Stamp)) (number : ℕ) : Type 0 where
  pub all : List (List ℕ)
  pub fetched : (a : Assignment) → agrees a → AreFetched a (take number parts) (take number pins) all
  pub many : length all ≡ length (take number parts)
  pub stored : papers ≡ with_parts before object (take number parts) all

-- how many parts may be saved where all were not: those before the refused one, and that one too where a device failed
-- at it
abbrev pub MaySave : SaveFault → ℕ → Type 0
MaySave (Damaged n) k = k ≡ n
MaySave (Device n) k = (k ≡ n) ⊎ (k ≡ n + 1)
MaySave Memory k = Unit {0}

-- What a refused call leaves: some first parts are saved, and nothing else is stored.
abbrev pub SaveLeaves : (Assignment → Type 0) → (Papers → Type 0) → (Papers → Type 0) → List ℕ → List Part →
    List (List Stamp) → SaveFault → Type 0
SaveLeaves agrees was holds object parts pins e =
    (papers : Papers) → holds papers → (before : Papers) × was before × (k : ℕ) × MaySave e k
    × IsSavedTo agrees before papers object parts pins k

-- one part is stored, with the bytes under its pin
pub record IsStored (agrees : Assignment → Type 0) (before papers : Papers) (object : List ℕ) (part : Part)
    (pin : List Stamp) : Type 0 where
  pub bytes : List ℕ
  pub fetched : (a : Assignment) → agrees a → IsFetched a part pin bytes
  pub stored : papers ≡ insert before (part_key object part.name) bytes

-- what a refused call leaves of one part: where its bytes are damaged, nothing; else nothing or all of it
abbrev pub PartLeft : (Assignment → Type 0) → Papers → Papers → List ℕ → Part → List Stamp → SaveFault → Type 0
PartLeft agrees before papers object part pin (Damaged n) = papers ≡ before
PartLeft agrees before papers object part pin (Device n) =
    (papers ≡ before) ⊎ IsStored agrees before papers object part pin
PartLeft agrees before papers object part pin Memory = (papers ≡ before) ⊎ IsStored agrees before papers object part pin

abbrev pub PartLeaves : (Assignment → Type 0) → (Papers → Type 0) → (Papers → Type 0) → List ℕ → Part → List Stamp →
    SaveFault → Type 0
PartLeaves agrees was holds object part pin e =
    (papers : Papers) → holds papers → (before : Papers) × was before × PartLeft agrees before papers object part pin e

-- what a refused call of a shelf leaves: nothing or all of these bytes under this name
abbrev pub StoreLeaves : (Papers → Type 0) → (Papers → Type 0) → List ℕ → List ℕ → Type 0
StoreLeaves was holds name bytes =
    (papers : Papers) → holds papers → (before : Papers) × was before
    × ((papers ≡ before) ⊎ (papers ≡ insert before name bytes))
