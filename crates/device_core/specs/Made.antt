-- Calls of a hand, each with its arguments and its answer.
use Rattle.std.specs.Prelude.{◌≡◌, ℕ, List, Result, Ok, Err}
use Rattle.device_core.specs.declared.hand.HandFault.{HandFault}
use Rattle.device_core.specs.declared.hand.HandFault.TheVariants.{Device}
use Rattle.device_core.specs.declared.hand.Pen.{Pen}
use Rattle.device_core.specs.declared.hand.Stamp.{Stamp}

-- a call that was made
pub data Made : Type 0 where
  creates : (answer : Result Pen HandFault) → Made
  -- of a file by its number
  appends : (number : ℕ) (bytes : List ℕ) (answer : Result (Unit {0}) HandFault) → Made
  seals : (pen : Pen) (answer : Result Stamp (Pen × HandFault)) → Made
  discards : (pen : Pen) → Made
  -- with what it left in the slice
  reads : (stamp : Stamp) (at : ℕ) (bytes : List ℕ) (answer : Result (Unit {0}) HandFault) → Made
  retires : (stamp : Stamp) (answer : Result (Unit {0}) HandFault) → Made

-- a call failed for the device
abbrev pub IsDeviceErr : {X : Type 0} → Result X HandFault → Type 0
IsDeviceErr (Ok x) = ⊥
IsDeviceErr (Err e) = e ≡ Device

-- a seal failed for the device
abbrev pub IsSealErr : Result Stamp (Pen × HandFault) → Type 0
IsSealErr (Ok stamp) = ⊥
IsSealErr (Err e) = e.1 ≡ Device

-- this call failed for the device, and gave its pen back
abbrev pub Fails : Made → Type 0
Fails (creates answer) = answer ≡ Err Device
Fails (appends number bytes answer) = answer ≡ Err Device
Fails (seals pen answer) = answer ≡ Err (pen, Device)
Fails (discards pen) = ⊥
Fails (reads stamp at bytes answer) = answer ≡ Err Device
Fails (retires stamp answer) = answer ≡ Err Device
