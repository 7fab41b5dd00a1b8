-- The files of a hand in memory.
use Rattle.std.specs.Prelude.{◌≡◌, ◌≢◌, ℕ, zero, suc, ◌+◌, ◌-◌, ◌^◌, ◌≤◌, min, List, length, Option, Some, None, Result}
use Rattle.std.specs.Prelude.{Ok, Err, slice_get}
use Rattle.std.specs.FinMap.{get}
use Rattle.device_core.specs.Device.{Assignment}
use Rattle.device_core.specs.declared.hand.HandFault.{HandFault}
use Rattle.device_core.specs.declared.hand.HandFault.TheVariants.{Device, Memory}
use Rattle.device_core.specs.declared.hand.Stamp.{Stamp}
use Rattle.device_core.specs.declared.memory.MemHand.{MemHand}
use Rattle.device_core.specs.declared.file.File.{File}
use Rattle.device_core.specs.declared.file.State.{State}
use Rattle.device_core.specs.declared.file.State.TheVariants.{Open, Sealed, Retired, Discarded}

-- files are numbered from 1
abbrev pub file_at : List File → ℕ → Option File
file_at files zero = None
file_at files (suc i) = slice_get files i

-- the bytes of a file that was sealed, also where it is retired
abbrev pub sealed_bytes : File → State → Option (List ℕ)
sealed_bytes file Open = None
sealed_bytes file Sealed = Some file.bytes.items
sealed_bytes file Retired = Some file.bytes.items
sealed_bytes file Discarded = None

-- the bytes of a file that can be read: sealed, and not retired
abbrev pub kept_bytes : File → State → Option (List ℕ)
kept_bytes file Open = None
kept_bytes file Sealed = Some file.bytes.items
kept_bytes file Retired = None
kept_bytes file Discarded = None

-- the bytes of a file that is being written
abbrev pub open_bytes : File → State → Option (List ℕ)
open_bytes file Open = Some file.bytes.items
open_bytes file Sealed = None
open_bytes file Retired = None
open_bytes file Discarded = None

abbrev pub sealed_of : Option File → Option (List ℕ)
sealed_of None = None
sealed_of (Some file) = sealed_bytes file file.state

abbrev pub kept_of : Option File → Option (List ℕ)
kept_of None = None
kept_of (Some file) = kept_bytes file file.state

abbrev pub open_of : Option File → Option (List ℕ)
open_of None = None
open_of (Some file) = open_bytes file file.state

-- an assignment has each file that was sealed
pub record HasFiles (files : List File) (a : Assignment) : Type 0 where
  pub each : (n : ℕ) (b : List ℕ) → sealed_of (file_at files n) ≡ Some b → get a n ≡ Some b

-- the file of this number is open and has these bytes
abbrev pub IsOpen : List File → ℕ → List ℕ → Type 0
IsOpen files n b = open_of (file_at files n) ≡ Some b

-- the file of this number is sealed and not retired, and has these bytes
abbrev pub IsKept : List File → ℕ → List ℕ → Type 0
IsKept files n b = kept_of (file_at files n) ≡ Some b

-- the file of a stamp is sealed and not retired, and is as long as the stamp says
abbrev pub Serves : List File → Stamp → Type 0
Serves files stamp = (b : List ℕ) × IsKept files stamp.number b × (stamp.len ≤ length b)

-- new has this file at this number, and elsewhere what old has
pub record Puts (old new : List File) (n : ℕ) (file : File) : Type 0 where
  pub there : file_at new n ≡ Some file
  pub elsewhere : (m : ℕ) → m ≢ n → file_at new m ≡ file_at old m

-- new has a file of this state and with these bytes at this number, and elsewhere what old has
abbrev pub Becomes : List File → List File → ℕ → State → List ℕ → Type 0
Becomes old new n state b = (file : File) × Puts old new n file × (file.state ≡ state) × (file.bytes.items ≡ b)

-- the files of a hand, from number 1
abbrev pub files_of : MemHand → List File
files_of hand = hand.files.items

-- how many of its calls failed for the device
abbrev pub failures_of : MemHand → ℕ
failures_of hand = hand.failures

-- that count after one more failure: it rises by a device fault, up to the greatest one
abbrev pub more_failures : ℕ → HandFault → ℕ
more_failures before Device = min (before + 1) (2 ^ 64 - 1)
more_failures before Memory = before

-- that count after a call
abbrev pub failures_after : {X : Type 0} → ℕ → Result X HandFault → ℕ
failures_after before (Ok x) = before
failures_after before (Err e) = more_failures before e
