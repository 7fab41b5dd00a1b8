-- What holds of each row of a table, as rows come and go.
use Rattle.std.proofs.Common.{◌≡◌, ℕ, suc, ◌+◌, ◌<◌, Bool, true, false, cond, List, [], ◌∷◌, refl, sym, ap, ◌∙◌, subst, arith}
use Rattle.std.proofs.Common.{inl, inr}
use Rattle.std.specs.Prelude.{map, All, ◌⊎◌, ◌||◌, nat_lt, ◌-◌, ◌≤◌}
use Rattle.std.proofs.lemmas.Bool.Decides.{nat_tests}
use Rattle.std.specs.declared.cmp.Ordering.TheVariants.{Less, Equal, Greater}
use Rattle.std.specs.Cmp.Lexicographic.{nat_list_cmp_total}
use Rattle.std.specs.Prelude.{Option, Some, None, IfSome, IfOk, ok_or}
use Rattle.std.specs.Ordering.{eq_by_cmp}
use Rattle.value_core.specs.Datum.{IsElement}
use Rattle.std.specs.FinMap as map
use Rattle.std.specs.FinMap.{put}
use Rattle.std.specs.FinMap.Entries.{by_order}
use Rattle.std.specs.BTreeMap.{is_at}
use Rattle.std.specs.Map.{remove_entry}
use Rattle.std.specs.List.Sorted.{IsStrictlySortedBy}
use Rattle.std.proofs.lemmas.List.Elements.{All-cons}
use Rattle.value_core.specs.Limits.{most_elements}
use Rattle.value_core.specs.declared.datum.Datum.{Datum}
use Rattle.value_core.specs.declared.kind.Elem.{Elem}
use Rattle.value_core.specs.TextOrder.{text_cmp}
use Rattle.value_core.specs.Rows.{as_data}
use Rattle.value_core.specs.Contents.{IsRow, AreRows}
use Rattle.value_core.proofs.Tables.{in_order}

pub head : {X : Type 0} (P : X → Type 0) (x : X) (xs : List X) → All P (x ∷ xs) → P x
head P x xs h = h 0 x (omega arith)

pub tail : {X : Type 0} (P : X → Type 0) (x : X) (xs : List X) → All P (x ∷ xs) → All P xs
tail P x xs h = λ k d lt. h (suc k) d (omega arith)

-- a row more, or one that is changed
pub rows_put : (e : Elem) (k : List ℕ) (v : Datum) (rows : List (List ℕ × Datum)) → IsRow e (k, v) → All (IsRow e) rows → All (IsRow e) (put text_cmp k v rows)
rows_put e k v [] row each = All-cons (IsRow e) (k, v) [] row each
rows_put e k v (r ∷ rows) row each =
    let first = head (IsRow e) r rows each in
    let later = tail (IsRow e) r rows each in
    elim (text_cmp k r.0) as (λ o. All (IsRow e) (by_order o ((k, v) ∷ r ∷ rows) ((r.0, v) ∷ rows) (r ∷ put text_cmp k v rows))) [
      | Less ↦ All-cons (IsRow e) (k, v) (r ∷ rows) row each
      | Equal ↦ All-cons (IsRow e) (r.0, v) rows (record { key = first.key; element = row.element }) later
      | Greater ↦ All-cons (IsRow e) r (put text_cmp k v rows) first (rows_put e k v rows row later)
    ]

module _ {X : Type 0} (datum : X → Datum) where
  rows_without : (e : Elem) (test : List ℕ → Bool) (es : List (List ℕ × X)) → All (IsRow e) (as_data datum es) → All (IsRow e) (as_data datum (remove_entry test es))
  rows_without e test [] each = each
  rows_without e test (r ∷ es) each =
      let first = head (IsRow e) (r.0, datum r.1) (as_data datum es) each in
      let later = tail (IsRow e) (r.0, datum r.1) (as_data datum es) each in
      elim (test r.0) as (λ b. All (IsRow e) (as_data datum (cond b es (r ∷ remove_entry test es)))) [
        | true ↦ later
        | false ↦ All-cons (IsRow e) (r.0, datum r.1) (as_data datum (remove_entry test es)) first (rows_without e test es later)
      ]

  rows_left : (e : Elem) (es fs : List (List ℕ × X)) (k : List ℕ) → IsStrictlySortedBy text_cmp (map (λ x. x.0) es) → IsStrictlySortedBy text_cmp (map (λ x. x.0) fs) → fs ≡ remove_entry (is_at (text_cmp k)) es
      → All (IsRow e) (map.entries (map.from_entries {R = text_cmp} (as_data datum es))) → All (IsRow e) (map.entries (map.from_entries {R = text_cmp} (as_data datum fs)))
  rows_left e es fs k before after is each =
      subst (All (IsRow e)) (sym (in_order datum fs after ∙ ap (as_data datum) is))
      (rows_without e (is_at (text_cmp k)) es (subst (All (IsRow e)) (in_order datum es before) each))

  no_more : (b : Bool) (n : ℕ) → cond b (n - 1) n ≤ n
  no_more true n = omega arith
  no_more false n = omega arith

  -- a row less
  pub rows_removed : (e : Elem) (es fs : List (List ℕ × X)) (k : List ℕ) → IsStrictlySortedBy text_cmp (map (λ x. x.0) es) → IsStrictlySortedBy text_cmp (map (λ x. x.0) fs) → fs ≡ remove_entry (is_at (text_cmp k)) es
      → map.from_entries {R = text_cmp} (as_data datum fs) ≡ map.remove (map.from_entries (as_data datum es)) k
      → AreRows e (map.from_entries (as_data datum es)) → AreRows e (map.from_entries (as_data datum fs))
  rows_removed e es fs k before after is gone rows =
      let m : map.FinMap text_cmp Datum = map.from_entries (as_data datum es) in
      record {
        each = rows_left e es fs k before after is rows.each;
        few = omega (arith, ap (λ n. map.len n) gone, map.len-remove nat_list_cmp_total m k, no_more (map.contains_key m k) (map.len m), rows.few);
      }

one_more : (b : Bool) (n : ℕ) → b || nat_lt n most_elements ≡ true → n ≤ most_elements → cond b n (n + 1) ≤ most_elements
one_more b n h few = grind (arith, nat_tests)

-- a row more, or one that is changed
pub rows_stored : (e : Elem) (m : map.FinMap text_cmp Datum) (k : List ℕ) (d : Datum) → AreRows e m → IsRow e (k, d) → map.contains_key m k || nat_lt (map.len m) most_elements ≡ true → AreRows e (map.insert m k d)
rows_stored e m k d rows row room =
    record {
      each = subst (All (IsRow e)) (sym (map.entries-insert nat_list_cmp_total m k d)) (rows_put e k d (map.entries m) row rows.each);
      few = omega (arith, map.len-insert nat_list_cmp_total m k d, one_more (map.contains_key m k) (map.len m) room rows.few);
    }

-- a key that is there needs no room
pub made_room : (b : Bool) (n : ℕ) → (b ≡ true) ⊎ (n < most_elements) → b || nat_lt n most_elements ≡ true
made_room b n (inl there) = rw there refl
made_room b n (inr less) = grind (arith, nat_tests)

found : (e : Elem) (k : List ℕ) (rows : List (List ℕ × Datum)) → All (IsRow e) rows → IfSome (map.find text_cmp k rows) (IsElement e)
found e k [] each = tt
found e k (r ∷ rows) each =
    elim (eq_by_cmp text_cmp k r.0) as (λ b. IfSome (cond b (Some r.1) (map.find text_cmp k rows)) (IsElement e)) [
      | true ↦ (head (IsRow e) r rows each).element
      | false ↦ found e k rows (tail (IsRow e) r rows each)
    ]

some_ok : {X E : Type 0} (P : X → Type 0) (o : Option X) (word : E) → IfSome o P → IfOk (ok_or o word) P
some_ok P (Some x) word h = h
some_ok P None word h = tt

-- what stands under a key is an element
pub under_is : {E : Type 0} (e : Elem) (m : map.FinMap text_cmp Datum) (k : List ℕ) (word : E) → AreRows e m → IfOk (ok_or (map.get m k) word) (IsElement e)
under_is e m k word rows = some_ok (IsElement e) (map.get m k) word (subst (λ o. IfSome o (IsElement e)) (sym (map.get-entries m k)) (found e k (map.entries m) rows.each))
