-- What the operations do to contents. Where the kind does not fit, nothing is asked of them.
use Rattle.std.specs.Prelude.{ℕ, ◌+◌, ◌-◌, ◌^◌, nat_lt, nat_le, Bool, false, ◌||◌, if◌then◌else◌, List, [], ◌∷◌}
use Rattle.std.specs.Prelude.{◌++◌, length, drop, Result, Ok, Err, slice_get, slice_set, ok_or, replicate}
use Rattle.std.specs.FinMap as map
use Rattle.value_core.specs.declared.datum.Datum.{Datum}
use Rattle.value_core.specs.declared.refusal.Refusal.{Refusal}
use Rattle.value_core.specs.declared.refusal.Refusal.TheVariants.{Index, Full, Empty, Missing, Range}
use Rattle.value_core.specs.declared.kind.Kind.{Kind}
use Rattle.value_core.specs.declared.kind.Kind.TheVariants as kind
use Rattle.value_core.specs.Datum.{zero_of}
use Rattle.value_core.specs.Limits.{most_elements}
use Rattle.value_core.specs.Contents.{Contents, array, queue, table}

-- what a part begins with: zeros or empty texts, an empty queue, an empty table
abbrev pub opening_of : Kind → Contents
opening_of (kind.Array n e) = array e (replicate n (zero_of e))
opening_of (kind.Queue e) = queue e []
opening_of (kind.Table e) = table e map.empty

-- the element at a place of an array, counted from 0
abbrev pub element_at : Contents → ℕ → Result Datum Refusal
element_at (array e xs) i = ok_or (slice_get xs i) Index
element_at (queue e xs) i = Err Index
element_at (table e m) i = Err Index

-- an array with another element at a place
abbrev pub with_element : Contents → ℕ → Datum → Result Contents Refusal
with_element (array e xs) i d = if nat_lt i (length xs) then Ok (array e (slice_set xs i d)) else Err Index
with_element (queue e xs) i d = Err Index
with_element (table e m) i d = Err Index

-- the oldest element of a queue
abbrev pub oldest_of : Contents → Result Datum Refusal
oldest_of (array e xs) = Err Empty
oldest_of (queue e xs) = ok_or (slice_get xs 0) Empty
oldest_of (table e m) = Err Empty

-- a queue without its oldest element
abbrev pub without_oldest : Contents → Result Contents Refusal
without_oldest (array e xs) = Err Empty
without_oldest (queue e xs) = if nat_lt 0 (length xs) then Ok (queue e (drop 1 xs)) else Err Empty
without_oldest (table e m) = Err Empty

-- a queue with one more element, as the newest
abbrev pub with_newest : Contents → Datum → Result Contents Refusal
with_newest (array e xs) d = Err Full
with_newest (queue e xs) d = if nat_lt (length xs) most_elements then Ok (queue e (xs ++ d ∷ [])) else Err Full
with_newest (table e m) d = Err Full

-- whether a table has a key
abbrev pub has_key : Contents → List ℕ → Bool
has_key (array e xs) k = false
has_key (queue e xs) k = false
has_key (table e m) k = map.contains_key m k

-- what stands under a key of a table
abbrev pub under_key : Contents → List ℕ → Result Datum Refusal
under_key (array e xs) k = Err Missing
under_key (queue e xs) k = Err Missing
under_key (table e m) k = ok_or (map.get m k) Missing

-- a table with this under this key, which is new only where there is room
abbrev pub with_row : Contents → List ℕ → Datum → Result Contents Refusal
with_row (array e xs) k d = Err Full
with_row (queue e xs) k d = Err Full
with_row (table e m) k d =
    if map.contains_key m k || nat_lt (map.len m) most_elements then Ok (table e (map.insert m k d)) else Err Full

-- a table without a key that it has
abbrev pub without_key : Contents → List ℕ → Result Contents Refusal
without_key (array e xs) k = Err Missing
without_key (queue e xs) k = Err Missing
without_key (table e m) k = if map.contains_key m k then Ok (table e (map.remove m k)) else Err Missing

-- the length of an array or a queue, the number of keys of a table
abbrev pub count_of : Contents → ℕ
count_of (array e xs) = length xs
count_of (queue e xs) = length xs
count_of (table e m) = map.len m

-- a sum is a whole number up to 4294967295
abbrev pub sum_of : ℕ → ℕ → Result ℕ Refusal
sum_of x y = if nat_lt (x + y) (2 ^ 32) then Ok (x + y) else Err Range

-- a difference is a whole number from 0 on
abbrev pub difference_of : ℕ → ℕ → Result ℕ Refusal
difference_of x y = if nat_le y x then Ok (x - y) else Err Range
