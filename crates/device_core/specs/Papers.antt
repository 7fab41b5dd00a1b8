-- What a shelf holds: bytes under names.
use Rattle.std.specs.Prelude.{◌≡◌, ℕ, ◌⊎◌, List, ◌++◌, codes, Option, Some, None, Result, Ok, Err}
use Rattle.std.specs.Ordering.{nat_cmp}
use Rattle.std.specs.Cmp.Lexicographic.{slice_cmp}
use Rattle.std.specs.FinMap.{FinMap, get, insert}
use Rattle.std.specs.Global.{Vec}
use Rattle.device_core.specs.declared.hand.HandFault.{HandFault}

-- bytes by their names
abbrev pub Papers : Type 0
Papers = FinMap (slice_cmp nat_cmp) (List ℕ)

-- what was found, as bytes
abbrev pub found_bytes : Option (Vec ℕ) → Option (List ℕ)
found_bytes None = None
found_bytes (Some v) = Some v.items

-- A load agrees with what a shelf holds where it gave just that. A failed one tells nothing.
abbrev pub LoadAgrees : Papers → List ℕ → Result (Option (Vec ℕ)) HandFault → Type 0
LoadAgrees papers name (Ok found) = found_bytes found ≡ get papers name
LoadAgrees papers name (Err e) = Unit {0}

-- A store puts the bytes under their name; a failed one may have done it or not.
abbrev pub StoreAgrees : Papers → List ℕ → List ℕ → Result (Unit {0}) HandFault → Papers → Type 0
StoreAgrees before name bytes (Ok u) papers = papers ≡ insert before name bytes
StoreAgrees before name bytes (Err e) papers = (papers ≡ before) ⊎ (papers ≡ insert before name bytes)

-- the name of a part of an object on a shelf: OBJECT.PART
abbrev pub part_key : List ℕ → List ℕ → List ℕ
part_key object part = object ++ codes "." ++ part
