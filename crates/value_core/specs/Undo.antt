-- What takes a change of a value back.
use Rattle.std.specs.Prelude.{◌≡◌, ⊤, ◌-◌, ◌&&◌, nat_lt, Bool, true, false, if◌then◌else◌, List, ◌∷◌, length}
use Rattle.std.specs.Prelude.{take, slice_set, vec_capacity, Result, Ok, Err, IsOk}
use Rattle.std.specs.VecDeque.{deque_capacity}
use Rattle.std.specs.FinMap as map
use Rattle.value_core.specs.Plain.{IsText}
use Rattle.value_core.specs.TextOrder.{text_cmp}
use Rattle.value_core.specs.declared.datum.Datum.{Datum}
use Rattle.value_core.specs.declared.datum.Datum.TheVariants as datum
use Rattle.value_core.specs.declared.kind.Elem.{Elem}
use Rattle.value_core.specs.declared.kind.Elem.TheVariants as elem
use Rattle.value_core.specs.declared.refusal.Refusal.{Refusal}
use Rattle.value_core.specs.declared.refusal.GrowFault.{GrowFault}
use Rattle.value_core.specs.declared.refusal.GrowFault.TheVariants as faults
use Rattle.value_core.specs.Contents.{Contents, array, queue, table}
use Rattle.value_core.specs.Datum.{IsDatum}
use Rattle.value_core.specs.Limits.{most_elements}
use Rattle.value_core.specs.declared.undo.Kept.{Kept}
use Rattle.value_core.specs.declared.undo.Kept.TheVariants as kept
use Rattle.value_core.specs.declared.undo.Undo.{Undo}
use Rattle.value_core.specs.declared.undo.Undo.TheVariants.{Element, Newest, OldestInteger, OldestText, Under, Added, RowOfInteger, RowOfText}

-- what was kept of an element
abbrev pub kept_datum : Kept → Datum
kept_datum (kept.Integer n) = datum.Integer n
kept_datum (kept.Text t) = datum.Text t

-- whether it is of this sort
abbrev pub is_kept_of : Elem → Kept → Bool
is_kept_of elem.Integer (kept.Integer n) = true
is_kept_of elem.Integer (kept.Text t) = false
is_kept_of elem.Text (kept.Integer n) = false
is_kept_of elem.Text (kept.Text t) = true

abbrev pub is_integer : Elem → Bool
is_integer elem.Integer = true
is_integer elem.Text = false

abbrev pub is_text : Elem → Bool
is_text elem.Integer = false
is_text elem.Text = true

-- the elements of an array before
abbrev pub array_back : Undo → Elem → List Datum → List Datum
array_back (Element i k) e xs = if is_kept_of e k then slice_set xs i (kept_datum k) else xs
array_back Newest e xs = xs
array_back (OldestInteger n room) e xs = xs
array_back (OldestText t room) e xs = xs
array_back (Under key k) e xs = xs
array_back (Added key) e xs = xs
array_back (RowOfInteger key n room) e xs = xs
array_back (RowOfText key t room) e xs = xs

-- the elements of a queue before; an element is put in front where there is room for it
abbrev pub queue_back : Undo → Elem → List Datum → List Datum
queue_back (Element i k) e xs = xs
queue_back Newest e xs = take (length xs - 1) xs
queue_back (OldestInteger n room) e xs =
    if is_integer e && nat_lt (length xs) (deque_capacity room) && nat_lt (length xs) most_elements then datum.Integer n ∷ xs else xs
queue_back (OldestText t room) e xs =
    if is_text e && nat_lt (length xs) (deque_capacity room) && nat_lt (length xs) most_elements then datum.Text t ∷ xs else xs
queue_back (Under key k) e xs = xs
queue_back (Added key) e xs = xs
queue_back (RowOfInteger key n room) e xs = xs
queue_back (RowOfText key t room) e xs = xs

-- the rows of a table before; a row is put in where there is room for it
abbrev pub table_back : Undo → Elem → map.FinMap text_cmp Datum → map.FinMap text_cmp Datum
table_back (Element i k) e m = m
table_back Newest e m = m
table_back (OldestInteger n room) e m = m
table_back (OldestText t room) e m = m
table_back (Under key k) e m = if is_kept_of e k && map.contains_key m key then map.insert m key (kept_datum k) else m
table_back (Added key) e m = map.remove m key
table_back (RowOfInteger key n room) e m =
    if is_integer e && nat_lt (map.len m) (vec_capacity room) && nat_lt (map.len m) most_elements then map.insert m key (datum.Integer n) else m
table_back (RowOfText key t room) e m =
    if is_text e && nat_lt (map.len m) (vec_capacity room) && nat_lt (map.len m) most_elements then map.insert m key (datum.Text t) else m

-- what a value was before the change that this takes back, from what it is after it
abbrev pub back : Undo → Contents → Contents
back u (array e xs) = array e (array_back u e xs)
back u (queue e xs) = queue e (queue_back u e xs)
back u (table e m) = table e (table_back u e m)

-- what it keeps can be a key and an element
abbrev pub KeepsData : Undo → Type 0
KeepsData (Element i k) = IsDatum (kept_datum k)
KeepsData Newest = ⊤
KeepsData (OldestInteger n room) = IsDatum (datum.Integer n)
KeepsData (OldestText t room) = IsDatum (datum.Text t)
KeepsData (Under key k) = IsText key × IsDatum (kept_datum k)
KeepsData (Added key) = ⊤
KeepsData (RowOfInteger key n room) = IsText key × IsDatum (datum.Integer n)
KeepsData (RowOfText key t room) = IsText key × IsDatum (datum.Text t)

-- an operation is done, and this takes it back; or it is refused, or, where it would be done, wants memory, and then
-- nothing changes
abbrev pub Grown : Result Undo GrowFault → Result Contents Refusal → Contents → Contents → Type 0
Grown (Ok u) meaning old new = (meaning ≡ Ok new) × (back u new ≡ old)
Grown (Err (faults.Refused word)) meaning old new = (meaning ≡ Err word) × (new ≡ old)
Grown (Err faults.Memory) meaning old new = IsOk meaning × (new ≡ old)
