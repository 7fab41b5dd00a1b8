-- What is kept of an object at the end.
use Rattle.std.specs.Prelude.{◌≡◌, ℕ, zero, suc, ◌<◌, ◌≤◌, List, [], ◌∷◌, length, Bool, true, false, IsTrue}
use Rattle.std.specs.Prelude.{Option, Some, None, slice_get}
use Rattle.std.specs.FinMap.{insert}
use Rattle.value_core.specs.declared.machine.LinesFault.{LinesFault}
use Rattle.value_core.specs.declared.machine.LinesFault.TheVariants.{WriteFault, Memory}
use Rattle.decl_core.specs.declared.object.Object.{Object}
use Rattle.decl_core.specs.declared.object.Part.{Part}
use Rattle.device_core.specs.declared.hand.HandFault.{HandFault}
use Rattle.device_core.specs.declared.hand.HandFault.TheVariants as hand
use Rattle.device_core.specs.declared.hand.Stamp.{Stamp}
use Rattle.device_core.specs.Device.{Assignment}
use Rattle.device_core.specs.Papers.{Papers, part_key}
use Rattle.page_core.specs.declared.save.SaveFault.{SaveFault}
use Rattle.page_core.specs.declared.save.SaveFault.TheVariants as save
use Rattle.page_core.specs.Saved.{IsFetched, IsDamagedPin}
use Rattle.page_core.specs.Lists.{Every, Among}
use Rattle.keep_core.specs.declared.trouble.Trouble.{Trouble}
use Rattle.keep_core.specs.Moments.{Moment}
use Rattle.keep_core.specs.Troubles.{first_of}
use Rattle.keep_core.specs.Lines.{AreSaid, IsOfClosing, damaged_lines}

-- bytes that were stored for a part, which has this place in its object
pub record Stored : Type 0 where
  pub place : ℕ
  pub part : Part
  pub bytes : List ℕ

-- the papers after such stores, in order, for the object of this name
abbrev pub with_stores : Papers → List ℕ → List Stored → Papers
with_stores papers object [] = papers
with_stores papers object (s ∷ more) = with_stores (insert papers (part_key object s.part.name) s.bytes) object more

-- it is of the part at its place
abbrev pub IsOfPart : List Part → Stored → Type 0
IsOfPart parts s = slice_get parts s.place ≡ Some s.part

-- its bytes are those under the part's pin, and they spell a value of the part's kind
abbrev pub IsOfPin : Assignment → List (List Stamp) → Stored → Type 0
IsOfPin a pins s = (pin : List Stamp) × (slice_get pins s.place ≡ Some pin) × IsFetched a s.part pin s.bytes

-- one of them is of this place
abbrev pub HasStore : List Stored → ℕ → Type 0
HasStore stores place = (s : Stored) × Among s stores × (s.place ≡ place)

-- Some parts were stored, each with the bytes under its pin, and nothing else; where these are all, each part from the
-- first place on to the end was.
pub record AreStored (agrees : Assignment → Type 0) (object : Object) (pins : List (List Stamp)) (first end : ℕ)
    (all : Bool) (before papers : Papers) : Type 0 where
  pub stores : List Stored
  pub parts : Every (IsOfPart object.parts.items) stores
  pub pinned : (a : Assignment) → agrees a → Every (IsOfPin a pins) stores
  pub after : papers ≡ with_stores before object.name stores
  pub whole : IsTrue all → (place : ℕ) → first ≤ place → place < end → place < length object.parts.items →
      HasStore stores place

-- whether a line said that something is refused or damaged, where one says so of these places too
abbrev pub refused_by : Bool → List ℕ → Bool
refused_by refused [] = refused
refused_by refused (place ∷ places) = true

-- What saving the parts from one place on to another comes to: whether all are saved, the places of those that are
-- damaged, the first fault that was met, and what is stored.
pub record Saves (agrees : Assignment → Type 0) (object : Object) (pins : List (List Stamp)) (first end : ℕ)
    (were are : Papers → Type 0) (all : Bool) (before after : Trouble) (old new : Option (List ℕ)) : Type 0 where
  pub damaged : List ℕ
  pub why : (a : Assignment) → agrees a → Every (IsDamagedPin a object.parts.items pins) damaged
  pub met : Option LinesFault
  pub closing : IsOfClosing met
  pub fault : after.fault ≡ first_of before.fault met
  pub refused : after.refused ≡ refused_by before.refused damaged
  pub said : AreSaid (damaged_lines object damaged) met old new
  pub quiet : IsTrue all → (met ≡ None) × (damaged ≡ [])
  pub loud : met ≡ None → damaged ≡ [] → IsTrue all
  pub stored : (papers : Papers) → are papers →
      (base : Papers) × were base × AreStored agrees object pins first end all base papers

-- the same of two moments
abbrev pub SavesIn : Moment → Moment → Object → List (List Stamp) → ℕ → ℕ → Bool → Type 0
SavesIn before after object pins first end all =
    Saves after.files object pins first end before.parts after.parts all before.trouble after.trouble before.written
    after.written

-- the fault of a write to a folder
abbrev pub fault_by : HandFault → LinesFault
fault_by hand.Device = WriteFault
fault_by hand.Memory = Memory

-- the place of a part that is damaged, where that is why it was not saved
abbrev pub damaged_by : SaveFault → ℕ → List ℕ
damaged_by (save.Damaged n) place = place ∷ []
damaged_by (save.Device n) place = []
damaged_by save.Memory place = []

-- the fault that is met because a part was not saved; that it is damaged is none, but the line that
-- says so may meet one
abbrev pub IsMetBy : SaveFault → Option LinesFault → Type 0
IsMetBy (save.Damaged n) met = IsOfClosing met
IsMetBy (save.Device n) met = met ≡ Some WriteFault
IsMetBy save.Memory met = met ≡ Some Memory

-- what is noted and told of a part that was not saved
pub record Notes (object : Object) (place : ℕ) (why : SaveFault) (before after : Trouble)
    (old new : Option (List ℕ)) : Type 0 where
  pub met : Option LinesFault
  pub by : IsMetBy why met
  pub fault : after.fault ≡ first_of before.fault met
  pub refused : after.refused ≡ refused_by before.refused (damaged_by why place)
  pub said : AreSaid (damaged_lines object (damaged_by why place)) met old new

-- the papers after a text was stored under a name, so many times
abbrev pub stored_times : ℕ → Papers → List ℕ → List ℕ → Papers
stored_times zero papers name text = papers
stored_times (suc n) papers name text = insert (stored_times n papers name text) name text

-- a text was stored under a name, at least so many times, and nothing else
abbrev pub StoresText : ℕ → List ℕ → List ℕ → (Papers → Type 0) → (Papers → Type 0) → Type 0
StoresText least name text were are =
    (papers : Papers) → are papers → (base : Papers) × were base × (times : ℕ) × (least ≤ times)
    × (papers ≡ stored_times times base name text)

-- 1 where it is true
abbrev pub once : Bool → ℕ
once true = 1
once false = 0

-- What writing a trace comes to: whether it is written, the first fault that was met, and what is stored.
pub record Traces (name text : List ℕ) (were are : Papers → Type 0) (done : Bool)
    (before after : Trouble) : Type 0 where
  pub met : Option LinesFault
  pub closing : IsOfClosing met
  pub fault : after.fault ≡ first_of before.fault met
  pub refused : after.refused ≡ before.refused
  pub quiet : IsTrue done → met ≡ None
  pub loud : met ≡ None → IsTrue done
  pub stored : StoresText (once done) name text were are
