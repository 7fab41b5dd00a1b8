-- What is assumed of devices: what was written is what is read.
use Rattle.std.specs.Prelude.{◌≡◌, ℕ, ◌+◌, ◌-◌, ◌^◌, ◌<◌, ◌≤◌, ◌⊎◌, List, length, take, drop, Option, Some, None}
use Rattle.std.specs.Prelude.{Result, Ok, Err, slice_get}
use Rattle.std.specs.Ordering.{nat_cmp}
use Rattle.std.specs.FinMap.{FinMap, get}
use Rattle.device_core.specs.declared.hand.HandFault.{HandFault}
use Rattle.device_core.specs.declared.hand.HandFault.TheVariants.{Device, Memory}
use Rattle.device_core.specs.declared.hand.Pen.{Pen}
use Rattle.device_core.specs.declared.hand.Stamp.{Stamp}

-- An assignment is a finite map from file numbers to bytes.
abbrev pub Assignment : Type 0
Assignment = FinMap nat_cmp (List ℕ)

-- a stamp's number is assigned exactly these bytes, and its length is theirs
pub record Holds (a : Assignment) (stamp : Stamp) (bytes : List ℕ) : Type 0 where
  pub assigned : get a stamp.number ≡ Some bytes
  pub len : stamp.len ≡ length bytes

-- A seal agrees with an assignment where its stamp's number is assigned exactly the appended bytes, and its length is
-- theirs. A failed one tells nothing.
abbrev pub SealAgrees : Assignment → List ℕ → Result Stamp (Pen × HandFault) → Type 0
SealAgrees a bytes (Ok stamp) = Holds a stamp bytes
SealAgrees a bytes (Err e) = Unit {0}

-- these bytes stand at this place in the ones assigned to a number
pub record Shows (a : Assignment) (number at : ℕ) (bytes : List ℕ) : Type 0 where
  pub file : List ℕ
  pub assigned : get a number ≡ Some file
  pub within : at + length bytes ≤ length file
  pub there : take (length bytes) (drop at file) ≡ bytes

-- A read agrees with an assignment where it gave the assigned bytes at its place. A failed one tells nothing.
abbrev pub ReadAgrees : Assignment → ℕ → ℕ → List ℕ → Result (Unit {0}) HandFault → Type 0
ReadAgrees a number at bytes (Ok u) = Shows a number at bytes
ReadAgrees a number at bytes (Err e) = Unit {0}

-- so many first bytes, where there are some
abbrev pub front_of : ℕ → Option (List ℕ) → Option (List ℕ)
front_of len None = None
front_of len (Some bytes) = Some (take len bytes)

-- The bytes of a stamp are the first ones assigned to its number, so many as its length says.
abbrev pub bytes_of : Assignment → Stamp → Option (List ℕ)
bytes_of a stamp = front_of stamp.len (get a stamp.number)

-- A stamp is whole where there are so many.
pub record IsWhole (a : Assignment) (stamp : Stamp) : Type 0 where
  pub file : List ℕ
  pub assigned : get a stamp.number ≡ Some file
  pub long : stamp.len ≤ length file

-- the device failed in this call, or can count no further
abbrev pub Failed : ℕ → ℕ → Type 0
Failed before now = (before < now) ⊎ (before ≡ 2 ^ 64 - 1)

-- A device fault has a device.
abbrev pub FaultCause : ℕ → ℕ → HandFault → Type 0
FaultCause before now Device = Failed before now
FaultCause before now Memory = Unit {0}

-- No file of this number is being written, as far as some assignment agrees with the device.
abbrev pub IsFree : (Assignment → Type 0) → (ℕ → List ℕ → Type 0) → ℕ → Type 0
IsFree agrees pending number = (a : Assignment) → agrees a → (b : List ℕ) → pending number b → ⊥

-- a device is in order for as many calls as one may make
abbrev pub Always : (ℕ → Type 0) → Type 0
Always works_for = (n : ℕ) → works_for n

-- each of these files can be read
abbrev pub AreServed : (Stamp → Type 0) → List Stamp → Type 0
AreServed serves pins = (p : ℕ) (pin : Stamp) → slice_get pins p ≡ Some pin → serves pin
