-- What a change is taken back from is contents again.
use Rattle.std.proofs.Common.{◌≡◌, ℕ, zero, suc, ◌<◌, Bool, true, false, List, [], ◌∷◌, length, refl, sym, ap, ◌∙◌, subst, arith}
use Rattle.std.specs.Prelude.{map as mapped, T, ◌&&◌, ◌||◌, nat_lt, ◌-◌, ◌≤◌, take, slice_set, if◌then◌else◌, vec_capacity}
use Rattle.std.specs.VecDeque.{deque_capacity}
use Rattle.std.proofs.lemmas.Bool.Decides.{nat_tests}
use Rattle.std.proofs.lemmas.List.{length-set}
use Rattle.std.proofs.lemmas.List.Elements.{All-cons, All-set, All-take}
use Rattle.std.specs.Ordering.{is_lt}
use Rattle.std.specs.declared.cmp.Ordering.{Ordering}
use Rattle.std.specs.declared.cmp.Ordering.TheVariants.{Less, Equal, Greater}
use Rattle.std.specs.BTreeMap.{is_at}
use Rattle.std.specs.Map.{remove_entry}
use Rattle.std.specs.List.{AllByRecursion}
use Rattle.std.specs.List.Sorted.{IsStrictlySortedBy}
use Rattle.std.specs.Cmp.Lexicographic.{nat_list_cmp_total}
use Rattle.std.specs.FinMap as map
use Rattle.std.specs.FinMap.Entries.{below_all}
use Rattle.value_core.specs.Plain.{IsText}
use Rattle.value_core.specs.TextOrder.{text_cmp}
use Rattle.value_core.specs.Limits.{most_elements}
use Rattle.value_core.specs.declared.datum.Datum.{Datum}
use Rattle.value_core.specs.declared.datum.Datum.TheVariants as datum
use Rattle.value_core.specs.declared.kind.Elem.{Elem}
use Rattle.value_core.specs.declared.kind.Elem.TheVariants as elem
use Rattle.value_core.specs.declared.undo.Kept.{Kept}
use Rattle.value_core.specs.declared.undo.Kept.TheVariants as kept
use Rattle.value_core.specs.declared.undo.Undo.{Undo}
use Rattle.value_core.specs.declared.undo.Undo.TheVariants.{Element, Newest, OldestInteger, OldestText, Under, Added, RowOfInteger, RowOfText}
use Rattle.value_core.specs.Datum.{IsDatum, IsElement}
use Rattle.value_core.specs.Contents.{Contents, array, queue, table, IsContents, AreElements, AreRows}
use Rattle.value_core.specs.Undo.{kept_datum, is_kept_of, is_integer, is_text, array_back, queue_back, table_back, back, KeepsData}
use Rattle.value_core.specs.Rows.{as_data}
use Rattle.value_core.specs.Sorted.{Rise}
use Rattle.value_core.proofs.Tables.{exact_texts}
use Rattle.value_core.proofs.Placing.{erased_row, rise_removed}
use Rattle.value_core.proofs.TableRows.{rows_stored, rows_removed}
use Rattle.value_core.proofs.Backs.{Table}

-- what was kept of this sort is an element
kept_is : (e : Elem) (k : Kept) → is_kept_of e k ≡ true → IsDatum (kept_datum k) → IsElement e (kept_datum k)
kept_is elem.Integer (kept.Integer n) is d = record { sort = refl; datum = d }
kept_is elem.Integer (kept.Text t) is d = cc
kept_is elem.Text (kept.Integer n) is d = cc
kept_is elem.Text (kept.Text t) is d = record { sort = refl; datum = d }

integer_is : (e : Elem) (n : ℕ) → is_integer e ≡ true → IsDatum (datum.Integer n) → IsElement e (datum.Integer n)
integer_is elem.Integer n is d = record { sort = refl; datum = d }
integer_is elem.Text n is d = cc

text_is : (e : Elem) (t : List ℕ) → is_text e ≡ true → IsDatum (datum.Text t) → IsElement e (datum.Text t)
text_is elem.Integer t is d = cc
text_is elem.Text t is d = record { sort = refl; datum = d }

-- of a test that chooses
chosen : {A : Type 0} (P : A → Type 0) (b : Bool) (x y : A) → (b ≡ true → P x) → P y → P (if b then x else y)
chosen P true x y first second = first refl
chosen P false x y first second = second

first_of : (a b : Bool) → a && b ≡ true → a ≡ true
first_of true b is = refl
first_of false b is = cc

second_of : (a b : Bool) → a && b ≡ true → b ≡ true
second_of true b is = is
second_of false b is = cc

is_less : (m n : ℕ) → nat_lt m n ≡ true → m < n
is_less m n is = grind (arith, nat_tests)

-- elements
with_set : (e : Elem) (xs : List Datum) (i : ℕ) (d : Datum) → IsElement e d → AreElements e xs → AreElements e (slice_set xs i d)
with_set e xs i d is are = record { each = All-set (IsElement e) xs i d is are.each; few = omega (arith, length-set xs i d, are.few) }

with_first : (e : Elem) (xs : List Datum) (d : Datum) → IsElement e d → length xs < most_elements → AreElements e xs → AreElements e (d ∷ xs)
with_first e xs d is less are = record { each = All-cons (IsElement e) d xs is are.each; few = omega (arith, less) }

shorter : (n : ℕ) (xs : List Datum) → length (take n xs) ≤ length xs
shorter zero xs = omega arith
shorter (suc n) [] = omega arith
shorter (suc n) (x ∷ xs) = omega (arith, shorter n xs)

with_fewer : (e : Elem) (xs : List Datum) (n : ℕ) → AreElements e xs → AreElements e (take n xs)
with_fewer e xs n are = record { each = All-take (IsElement e) n xs are.each; few = omega (arith, shorter n xs, are.few) }

-- rows
split : (a b : Bool) → T (a && b) → T a × T b
split true b h = (tt, h)
split false b h = absurd h

less : (o : Ordering) → T (is_lt o) → o ≡ Less
less Less h = refl
less Equal h = absurd h
less Greater h = absurd h

all_below : (k : List ℕ) (es : List (List ℕ × Datum)) → T (below_all text_cmp k es) → AllByRecursion (λ y. text_cmp k y ≡ Less) (mapped (λ e. e.0) es)
all_below k [] h = tt
all_below k (e ∷ es) h =
    let parts = split (is_lt (text_cmp k e.0)) (below_all text_cmp k es) h in
    (less (text_cmp k e.0) parts.0, all_below k es parts.1)

rise_of : (es : List (List ℕ × Datum)) → T (map.is_sorted text_cmp es) → Rise es
unfolding IsStrictlySortedBy
rise_of [] h = tt
rise_of (e ∷ es) h =
    let parts = split (below_all text_cmp e.0 es) (map.is_sorted text_cmp es) h in
    (all_below e.0 es parts.0, rise_of es parts.1)

as_they_are : (es : List (List ℕ × Datum)) → as_data (λ d. d) es ≡ es
as_they_are [] = refl
as_they_are (e ∷ es) = ap (λ l. e ∷ l) (as_they_are es)

-- a table is that of its rows
of_rows : (m : Table) → m ≡ map.from_entries {R = text_cmp} (as_data (λ d. d) (map.entries m))
of_rows m =
    map.same_map nat_list_cmp_total exact_texts m (map.from_entries (map.entries m)) (λ q. map.get-entries m q ∙ sym (map.get-from_entries nat_list_cmp_total (map.entries m) q))
    ∙ ap (λ es. map.from_entries {R = text_cmp} es) (sym (as_they_are (map.entries m)))

without_row : (e : Elem) (m : Table) (k : List ℕ) → AreRows e m → AreRows e (map.remove m k)
without_row e m k rows =
    let es = map.entries m in
    let rise = rise_of es (map.entries_sorted m) in
    let gone = erased_row (λ d. d) es k rise in
    subst (λ n. AreRows e (map.remove n k)) (sym (of_rows m)) (subst (AreRows e) gone
    (rows_removed (λ d. d) e es (remove_entry (is_at (text_cmp k)) es) k rise (rise_removed (is_at (text_cmp k)) es rise) refl gone (subst (AreRows e) (of_rows m) rows)))

over_row : (e : Elem) (m : Table) (k : List ℕ) (d : Datum) → IsText k → IsElement e d → map.contains_key m k ≡ true → AreRows e m → AreRows e (map.insert m k d)
over_row e m k d key is there rows = rows_stored e m k d rows (record { key = key; element = is }) (ap (λ b. b || nat_lt (map.len m) most_elements) there)

or_true : (a b : Bool) → b ≡ true → a || b ≡ true
or_true true b is = refl
or_true false b is = is

row_more : (e : Elem) (m : Table) (k : List ℕ) (d : Datum) → IsText k → IsElement e d → nat_lt (map.len m) most_elements ≡ true → AreRows e m → AreRows e (map.insert m k d)
row_more e m k d key is less rows = rows_stored e m k d rows (record { key = key; element = is }) (or_true (map.contains_key m k) _ less)

array_again : (u : Undo) (e : Elem) (xs : List Datum) → KeepsData u → AreElements e xs → AreElements e (array_back u e xs)
array_again (Element i k) e xs holds are = chosen (AreElements e) (is_kept_of e k) _ _ (λ is. with_set e xs i (kept_datum k) (kept_is e k is holds) are) are
array_again Newest e xs holds are = are
array_again (OldestInteger n room) e xs holds are = are
array_again (OldestText t room) e xs holds are = are
array_again (Under key k) e xs holds are = are
array_again (Added key) e xs holds are = are
array_again (RowOfInteger key n room) e xs holds are = are
array_again (RowOfText key t room) e xs holds are = are

queue_again : (u : Undo) (e : Elem) (xs : List Datum) → KeepsData u → AreElements e xs → AreElements e (queue_back u e xs)
queue_again (Element i k) e xs holds are = are
queue_again Newest e xs holds are = with_fewer e xs (length xs - 1) are
queue_again (OldestInteger n room) e xs holds are =
    chosen (AreElements e) (is_integer e && nat_lt (length xs) (deque_capacity room) && nat_lt (length xs) most_elements) _ _ (λ is.
    with_first e xs (datum.Integer n) (integer_is e n (first_of _ _ (first_of _ _ is)) holds) (is_less _ _ (second_of _ _ is)) are) are
queue_again (OldestText t room) e xs holds are =
    chosen (AreElements e) (is_text e && nat_lt (length xs) (deque_capacity room) && nat_lt (length xs) most_elements) _ _ (λ is.
    with_first e xs (datum.Text t) (text_is e t (first_of _ _ (first_of _ _ is)) holds) (is_less _ _ (second_of _ _ is)) are) are
queue_again (Under key k) e xs holds are = are
queue_again (Added key) e xs holds are = are
queue_again (RowOfInteger key n room) e xs holds are = are
queue_again (RowOfText key t room) e xs holds are = are

table_again : (u : Undo) (e : Elem) (m : Table) → KeepsData u → AreRows e m → AreRows e (table_back u e m)
table_again (Element i k) e m holds rows = rows
table_again Newest e m holds rows = rows
table_again (OldestInteger n room) e m holds rows = rows
table_again (OldestText t room) e m holds rows = rows
table_again (Under key k) e m holds rows =
    chosen (AreRows e) (is_kept_of e k && map.contains_key m key) _ _ (λ is.
    over_row e m key (kept_datum k) holds.0 (kept_is e k (first_of _ _ is) holds.1) (second_of _ _ is) rows) rows
table_again (Added key) e m holds rows = without_row e m key rows
table_again (RowOfInteger key n room) e m holds rows =
    chosen (AreRows e) (is_integer e && nat_lt (map.len m) (vec_capacity room) && nat_lt (map.len m) most_elements) _ _ (λ is.
    row_more e m key (datum.Integer n) holds.0 (integer_is e n (first_of _ _ (first_of _ _ is)) holds.1) (second_of _ _ is) rows) rows
table_again (RowOfText key t room) e m holds rows =
    chosen (AreRows e) (is_text e && nat_lt (map.len m) (vec_capacity room) && nat_lt (map.len m) most_elements) _ _ (λ is.
    row_more e m key (datum.Text t) holds.0 (text_is e t (first_of _ _ (first_of _ _ is)) holds.1) (second_of _ _ is) rows) rows

-- what a change was taken back from is contents
pub contents_again : (u : Undo) (v : Contents) → KeepsData u → IsContents v → IsContents (back u v)
contents_again u (array e xs) holds are = array_again u e xs holds are
contents_again u (queue e xs) holds are = queue_again u e xs holds are
contents_again u (table e m) holds are = table_again u e m holds are
