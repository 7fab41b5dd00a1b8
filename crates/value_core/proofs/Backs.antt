-- A change that is taken back gives what was before it.
use Rattle.std.proofs.Common.{◌≡◌, ℕ, zero, suc, Bool, true, false, cond, List, [], ◌∷◌, length, Some, None, arith, refl, sym, ap, ◌∙◌}
use Rattle.std.specs.declared.cmp.Ordering.{Ordering}
use Rattle.std.specs.declared.cmp.Ordering.TheVariants.{Less, Equal, Greater}
use Rattle.std.specs.Ordering.{eq_by_cmp, is_eq}
use Rattle.std.specs.Prelude.{is_some, Option, slice_get, slice_set, map as map_of, ◌&&◌, nat_lt, if◌then◌else◌, ◌+◌, ◌<◌, ◌≤◌}
use Rattle.std.specs.Cmp.{eq_by_cmp_equiv}
use Rattle.std.specs.Cmp.Lexicographic.{nat_list_cmp_total}
use Rattle.std.specs.FinMap as map
use Rattle.std.specs.FinMap.{get-insert, get-remove, len-insert, put, same_map}
use Rattle.value_core.specs.declared.datum.Datum.{Datum}
use Rattle.value_core.specs.TextOrder.{text_cmp}
use Rattle.value_core.specs.declared.datum.Datum.TheVariants as datum
use Rattle.value_core.specs.declared.kind.Elem.{Elem}
use Rattle.value_core.specs.declared.kind.Elem.TheVariants as elem
use Rattle.value_core.specs.declared.cells.Cells.{Cells}
use Rattle.value_core.specs.declared.cells.Cells.TheVariants.{Integers, Texts}
use Rattle.value_core.specs.declared.undo.Kept.{Kept}
use Rattle.value_core.specs.declared.undo.Kept.TheVariants as kept
use Rattle.value_core.specs.Datum.{elem_of}
use Rattle.value_core.specs.Cells.{cells_sort, cells_data}
use Rattle.value_core.specs.Undo.{kept_datum, is_kept_of}
use Rattle.std.proofs.lemmas.Bool.Decides.{nat_tests}
use Rattle.value_core.specs.Limits.{most_elements}
use Rattle.value_core.specs.Rows.{as_data}
use Rattle.value_core.specs.Sorted.{Rise}
use Rattle.value_core.proofs.Tables.{exact_texts, value_at, has_at, count_at}
use Rattle.value_core.proofs.Placing.{stored_row}

abbrev elem_in : Option Datum → Elem
elem_in (Some d) = elem_of d
elem_in None = elem.Integer

-- a table
abbrev pub Table : Type 0
Table = map.FinMap text_cmp Datum

-- two that tie are alike
tied : (o : Ordering) → is_eq o ≡ true → o ≡ Equal
tied Less is = cc
tied Equal is = refl
tied Greater is = cc

-- a key that ties with another is that key
same_key : (m : Table) (k q : List ℕ) → eq_by_cmp text_cmp q k ≡ true → map.get m k ≡ map.get m q
same_key m k q tie = ap (map.get m) (sym (exact_texts q k (tied (text_cmp q k) tie)))

here : (m : Table) (k q : List ℕ) (o : Option Datum) (b : Bool) → map.get m k ≡ o → eq_by_cmp text_cmp q k ≡ b → cond b o (map.get m q) ≡ map.get m q
here m k q o true is tie = sym is ∙ same_key m k q tie
here m k q o false is tie = refl

twice : {A : Type 0} (b : Bool) (x y z : A) → cond b x (cond b y z) ≡ cond b x z
twice true x y z = refl
twice false x y z = refl

-- a row that was erased is put in again
pub erased_back : (m : Table) (k : List ℕ) (v : Datum) → map.get m k ≡ Some v → map.insert (map.remove m k) k v ≡ m
erased_back m k v is = same_map nat_list_cmp_total exact_texts _ _ (λ q.
    get-insert nat_list_cmp_total (map.remove m k) k v q ∙ ap (cond (eq_by_cmp text_cmp q k) (Some v)) (get-remove nat_list_cmp_total m k q)
    ∙ twice (eq_by_cmp text_cmp q k) (Some v) None (map.get m q) ∙ here m k q (Some v) (eq_by_cmp text_cmp q k) is refl)

-- an element that was stored over is stored again
pub stored_back : (m : Table) (k : List ℕ) (v w : Datum) → map.get m k ≡ Some v → map.insert (map.insert m k w) k v ≡ m
stored_back m k v w is = same_map nat_list_cmp_total exact_texts _ _ (λ q.
    get-insert nat_list_cmp_total (map.insert m k w) k v q ∙ ap (cond (eq_by_cmp text_cmp q k) (Some v)) (get-insert nat_list_cmp_total m k w q)
    ∙ twice (eq_by_cmp text_cmp q k) (Some v) (Some w) (map.get m q) ∙ here m k q (Some v) (eq_by_cmp text_cmp q k) is refl)

-- a key that was added is dropped
pub added_back : (m : Table) (k : List ℕ) (w : Datum) → map.get m k ≡ None → map.remove (map.insert m k w) k ≡ m
added_back m k w is = same_map nat_list_cmp_total exact_texts _ _ (λ q.
    get-remove nat_list_cmp_total (map.insert m k w) k q ∙ ap (cond (eq_by_cmp text_cmp q k) None) (get-insert nat_list_cmp_total m k w q)
    ∙ twice (eq_by_cmp text_cmp q k) None (Some w) (map.get m q) ∙ here m k q None (eq_by_cmp text_cmp q k) is refl)

pub none_some : {X : Type 0} (o : Option X) → is_some o ≡ true → o ≡ None → ⊥
none_some (Some x) some none = cc
none_some None some none = cc

-- what was kept is of the sort that its datum is of
pub kept_sort : (e : Elem) (k : Kept) → elem_of (kept_datum k) ≡ e → is_kept_of e k ≡ true
kept_sort elem.Integer (kept.Integer n) is = refl
kept_sort elem.Integer (kept.Text t) is = cc
kept_sort elem.Text (kept.Integer n) is = cc
kept_sort elem.Text (kept.Text t) is = refl

pub other_sort : (e : Elem) (k : Kept) → (elem_of (kept_datum k) ≡ e → ⊥) → is_kept_of e k ≡ false
other_sort elem.Integer (kept.Integer n) not = absurd (not refl)
other_sort elem.Integer (kept.Text t) not = refl
other_sort elem.Text (kept.Integer n) not = refl
other_sort elem.Text (kept.Text t) not = absurd (not refl)

-- an element that was set over is set again
pub element_back : (xs : List Datum) (i : ℕ) (old new : Datum) → slice_get xs i ≡ Some old → slice_set (slice_set xs i new) i old ≡ xs
element_back (x ∷ xs) zero old new is = ap (λ y. y ∷ xs) (sym (some_same x old is))
  where
    some_same : (a b : Datum) → Some a ≡ Some b → a ≡ b
    some_same a b e = cc
element_back (x ∷ xs) (suc i) old new is = ap (λ l. x ∷ l) (element_back xs i old new is)
element_back [] i old new is = refl

-- each element of an array is of its sort
pub cell_sort : (c : Cells) (i : ℕ) (d : Datum) → slice_get (cells_data c) i ≡ Some d → elem_of d ≡ cells_sort c
cell_sort (Integers v) i d is = number v.items i d is
  where
    number : (xs : List ℕ) (i : ℕ) (d : Datum) → slice_get (map_of datum.Integer xs) i ≡ Some d → elem_of d ≡ elem.Integer
    number [] i d is = absurd (none_of is)
      where
        none_of : None ≡ Some d → ⊥
        none_of e = cc
    number (x ∷ xs) zero d is = sym (ap (λ o. elem_in o) is)
    number (x ∷ xs) (suc i) d is = number xs i d is
cell_sort (Texts v) i d is = text v.items i d is
  where
    text : (xs : List (List ℕ)) (i : ℕ) (d : Datum) → slice_get (map_of datum.Text xs) i ≡ Some d → elem_of d ≡ elem.Text
    text [] i d is = absurd (none_of is)
      where
        none_of : None ≡ Some d → ⊥
        none_of e = cc
    text (x ∷ xs) zero d is = sym (ap (λ o. elem_in o) is)
    text (x ∷ xs) (suc i) d is = text xs i d is

-- where a row was erased there is room for it, and it is put in again
longer : (m : Table) (k : List ℕ) (v : Datum) → map.get m k ≡ Some v → map.len m ≡ map.len (map.remove m k) + 1
longer m k v is =
    ap map.len (sym (erased_back m k v is)) ∙ len-insert nat_list_cmp_total (map.remove m k) k v
    ∙ ap (λ o. cond (is_some o) (map.len (map.remove m k)) (map.len (map.remove m k) + 1)) (get-remove nat_list_cmp_total m k k ∙ ap (λ b. cond b None (map.get m k)) ((eq_by_cmp_equiv nat_list_cmp_total).refl k))

both : (a b c : ℕ) → a < b → a < c → nat_lt a b && nat_lt a c ≡ true
both a b c first second = grind (arith, nat_tests)

with_room : {A : Type 0} (a b c : ℕ) (x y : A) → a < b → a < c → (if nat_lt a b && nat_lt a c then x else y) ≡ x
with_room a b c x y first second = ap (λ t. if t then x else y) (both a b c first second)

pub row_back : (m n : Table) (k key : List ℕ) (v : Datum) (room : ℕ) → n ≡ map.remove m k → map.get m k ≡ Some v → key ≡ k → map.len m ≤ room → map.len m ≤ most_elements → (if nat_lt (map.len n) room && nat_lt (map.len n) most_elements then map.insert n key v else n) ≡ m
row_back m n k key v room left is same fits few =
    let less : map.len n < map.len m = omega (arith, longer m k v is, ap map.len left) in
    with_room (map.len n) room most_elements (map.insert n key v) n (omega (arith, less, fits)) (omega (arith, less, few)) ∙ ap (λ q. map.insert n q v) same ∙ ap (λ t. map.insert t k v) left ∙ erased_back m k v is

-- what stood under a key is put there again
pub under_back : (m n : Table) (k key : List ℕ) (w : Datum) (e : Elem) (old : Kept) → n ≡ map.insert m k w → is_kept_of e old ≡ true → Some (kept_datum old) ≡ map.get m k → key ≡ k → (if is_kept_of e old && map.contains_key n key then map.insert n key (kept_datum old) else n) ≡ m
under_back m n k key w e old new sort there same =
    ap (λ q. if is_kept_of e old && map.contains_key n q then map.insert n q (kept_datum old) else n) same ∙ ap (λ t. if is_kept_of e old && map.contains_key t k then map.insert t k (kept_datum old) else t) new
    ∙ ap (λ b. if b && map.contains_key (map.insert m k w) k then map.insert (map.insert m k w) k (kept_datum old) else map.insert m k w) sort
    ∙ ap (λ o. if is_some o then map.insert (map.insert m k w) k (kept_datum old) else map.insert m k w) (get-insert nat_list_cmp_total m k w k ∙ ap (λ b. cond b (Some w) (map.get m k)) ((eq_by_cmp_equiv nat_list_cmp_total).refl k))
    ∙ stored_back m k (kept_datum old) w (sym there)

-- a key that was added is dropped
pub none_back : (m n : Table) (k key : List ℕ) (w : Datum) → n ≡ map.insert m k w → None ≡ map.get m k → key ≡ k → map.remove n key ≡ m
none_back m n k key w new none same = ap (map.remove n) same ∙ ap (λ t. map.remove t k) new ∙ added_back m k w (sym none)

module _ {X : Type 0} (datum : X → Datum) where
  -- a row that is put in, or not
  put_or_not : (b : Bool) (es : List (List ℕ × X)) (k : List ℕ) (v : X) → Rise es → map.from_entries {R = text_cmp} (as_data datum (if b then put text_cmp k v es else es)) ≡ (if b then map.insert (map.from_entries (as_data datum es)) k (datum v) else map.from_entries (as_data datum es))
  put_or_not true es k v rise = stored_row datum es k v rise
  put_or_not false es k v rise = refl

  -- another value under a key, where it is there
  pub exchanged : (es fs : List (List ℕ × X)) (k : List ℕ) (v : X) → Rise es → fs ≡ (if is_some (value_at datum es k) then put text_cmp k v es else es)
      → map.from_entries {R = text_cmp} (as_data datum fs) ≡ (if map.contains_key (map.from_entries {R = text_cmp} (as_data datum es)) k then map.insert (map.from_entries (as_data datum es)) k (datum v) else map.from_entries (as_data datum es))
  exchanged es fs k v rise is =
      let m : Table = map.from_entries (as_data datum es) in
      ap (λ l. map.from_entries {R = text_cmp} (as_data datum l)) is ∙ put_or_not (is_some (value_at datum es k)) es k v rise ∙ ap (λ b. if b then map.insert m k (datum v) else m) (sym (has_at datum es k))

  -- a row that is put back, where there is room
  pub put_in_room : (es fs : List (List ℕ × X)) (k : List ℕ) (v : X) (room : ℕ) → Rise es → fs ≡ (if nat_lt (length es) room && nat_lt (length es) most_elements then put text_cmp k v es else es)
      → map.from_entries {R = text_cmp} (as_data datum fs) ≡ (if nat_lt (map.len (map.from_entries {R = text_cmp} (as_data datum es))) room && nat_lt (map.len (map.from_entries {R = text_cmp} (as_data datum es))) most_elements then map.insert (map.from_entries (as_data datum es)) k (datum v) else map.from_entries (as_data datum es))
  put_in_room es fs k v room rise is =
      let m : Table = map.from_entries (as_data datum es) in
      ap (λ l. map.from_entries {R = text_cmp} (as_data datum l)) is ∙ put_or_not (nat_lt (length es) room && nat_lt (length es) most_elements) es k v rise
      ∙ ap (λ n. if nat_lt n room && nat_lt n most_elements then map.insert m k (datum v) else m) (count_at datum es rise)
