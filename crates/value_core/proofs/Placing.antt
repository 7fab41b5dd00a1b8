-- What a place among rows in the order of their keys tells, and what an edit there does.
use Rattle.std.proofs.Common.{◌≡◌, ℕ, zero, suc, ◌+◌, ◌<◌, ◌≤◌, Bool, true, false, cond, List, [], ◌∷◌, length, get_or, set, Some, None, Result, Ok, Err, IfOk, IfErr, refl, sym, ap, ◌∙◌, subst, arith}
use Rattle.std.specs.Prelude.{map, is_some}
use Rattle.std.specs.declared.cmp.Ordering.{Ordering}
use Rattle.std.specs.declared.cmp.Ordering.TheVariants.{Less, Equal, Greater}
use Rattle.std.specs.Ordering.{is_eq, is_lt, ordering_reverse, ordering_index, eq_by_cmp}
use Rattle.std.specs.Cmp.Lexicographic.{nat_list_cmp_total}
use Rattle.std.specs.Cmp.{eq_by_cmp_equiv, alike_right}
use Rattle.std.specs.BTreeMap.{is_at}
use Rattle.std.specs.FinMap as map
use Rattle.std.specs.FinMap.{put}
use Rattle.std.specs.FinMap.Entries.{by_order}
use Rattle.std.specs.List.{AllZip, AllWithin, HoldsAt, AllByRecursion, insert, remove}
use Rattle.std.specs.List.Sorted.{IsStrictlySortedBy, IsNonDecreasingBy, IsSearchInRange, IsBinarySearchResult}
use Rattle.std.specs.Map.{lookup, remove_entry}
use Rattle.std.proofs.lemmas.Map.{lookup-remove_entry}
use Rattle.std.proofs.lemmas.Map.Keys.{IsDistinct-from_sorted, Less-from_sorted}
use Rattle.std.proofs.lemmas.List.Sorted.{searchable_from_sorted}
use Rattle.std.proofs.lemmas.List.{get_or-map, length-map}
use Rattle.value_core.specs.declared.datum.Datum.{Datum}
use Rattle.value_core.specs.TextOrder.{text_cmp}
use Rattle.value_core.specs.Rows.{as_data}
use Rattle.value_core.specs.Sorted.{Rise, StandsAt, IsGapFor}
use Rattle.value_core.proofs.Tables.{in_order, erased}

turned : (x y : List ℕ) (o : Ordering) → text_cmp x y ≡ o → text_cmp y x ≡ ordering_reverse o
turned x y o is = nat_list_cmp_total.antisymm y x ∙ ap ordering_reverse is

pub rise_none : (X : Type 0) → Rise {X = X} []
unfolding IsStrictlySortedBy
rise_none X = tt

below_lower : (k x : List ℕ) (ys : List (List ℕ)) → text_cmp k x ≡ Less → AllByRecursion (λ y. text_cmp x y ≡ Less) ys → AllByRecursion (λ y. text_cmp k y ≡ Less) ys
below_lower k x [] less all = tt
below_lower k x (y ∷ ys) less all = (nat_list_cmp_total.trans k x y less all.0, below_lower k x ys less all.1)

module _ {X : Type 0} where
  -- the first row, and those behind it
  front : (P : List ℕ × X → Type 0) (e : List ℕ × X) (es : List (List ℕ × X)) (n : ℕ) → AllWithin P (e ∷ es) 0 (suc n) → P e
  front P e es n h = h 0 e (omega arith) (omega arith)

  behind : (P : List ℕ × X → Type 0) (e : List ℕ × X) (es : List (List ℕ × X)) (m n : ℕ) → AllWithin P (e ∷ es) (suc m) (suc n) → AllWithin P es m n
  behind P e es m n h = λ k d low high. h (suc k) d (omega (arith, low)) (omega (arith, high))

  behind_all : (P : List ℕ × X → Type 0) (e : List ℕ × X) (es : List (List ℕ × X)) (n : ℕ) → AllWithin P (e ∷ es) 0 (suc n) → AllWithin P es 0 n
  behind_all P e es n h = λ k d low high. h (suc k) d (omega arith) (omega (arith, high))

  key_at : (es : List (List ℕ × X)) (i : ℕ) (d : List ℕ × X) → i < length es → get_or (map (λ e. e.0) es) i d.0 ≡ (get_or es i d).0
  key_at es i d inside = get_or-map (λ (e : List ℕ × X). e.0) es i d d.0 inside

  -- a key comes before a later one
  key_less : (es : List (List ℕ × X)) (i j : ℕ) (d : List ℕ × X) → Rise es → i < j → j < length es → text_cmp (get_or es i d).0 (get_or es j d).0 ≡ Less
  key_less es i j d rise before inside =
      let less : text_cmp (get_or (map (λ e. e.0) es) i d.0) (get_or (map (λ e. e.0) es) j d.0) ≡ Less = Less-from_sorted text_cmp (map (λ e. e.0) es) i j d.0 rise before (omega (arith, inside, length-map es (λ (e : List ℕ × X). e.0))) in
      rw (sym (key_at es i d (omega (arith, before, inside))), sym (key_at es j d inside)) less

  -- the keys before a place are lower than the key there
  lower_before : (es : List (List ℕ × X)) (k : List ℕ) (i : ℕ) → Rise es → i < length es → HoldsAt (λ e. text_cmp e.0 k ≡ Equal) es i → AllWithin (λ e. text_cmp e.0 k ≡ Less) es 0 i
  lower_before es k i rise inside same = λ j d low high.
      sym (alike_right nat_list_cmp_total (get_or es i d).0 k (get_or es j d).0 (same d)) ∙ key_less es j i d rise high inside

  -- what a search among keys that rise asks
  rising : (es : List (List ℕ × X)) (k : List ℕ) → Rise es → IsNonDecreasingBy (λ e. ordering_index (text_cmp e.0 k)) es
  rising es k rise = searchable_from_sorted nat_list_cmp_total (λ (e : List ℕ × X). e.0) es k (λ i d low high.
      ap is_lt (turned (get_or es i d).0 (get_or es (i + 1) d).0 Less (key_less es i (i + 1) d rise (omega arith) high)))

  -- where it ends
  pub placed : (es : List (List ℕ × X)) (k : List ℕ) (r : Result ℕ ℕ) → Rise es → IsSearchInRange r (length es) → IsBinarySearchResult (λ e. text_cmp e.0 k) es r → record { found : IfOk r (StandsAt es k); gap : IfErr r (IsGapFor es k) }
  placed es k (Ok i) rise inside equal = record { found = record { inside = inside; lower = lower_before es k i rise inside equal; same = equal }; gap = tt }
  placed es k (Err i) rise inside parted =
      let parts = parted (rising es k rise) in
      record { found = tt; gap = record { inside = inside; lower = parts.0; higher = parts.1 } }

  -- a row that is put into its gap
  put_in_gap : (es : List (List ℕ × X)) (k : List ℕ) (v : X) (i : ℕ) → i ≤ length es → AllWithin (λ e. text_cmp e.0 k ≡ Less) es 0 i → AllWithin (λ e. text_cmp e.0 k ≡ Greater) es i (length es) → insert es i (k, v) ≡ put text_cmp k v es
  put_in_gap [] k v zero inside low high = refl
  put_in_gap [] k v (suc i) inside low high = absurd (omega (arith, inside))
  put_in_gap (e ∷ es) k v zero inside low high = rw (turned e.0 k Greater (front (λ e. text_cmp e.0 k ≡ Greater) e es (length es) high)) refl
  put_in_gap (e ∷ es) k v (suc i) inside low high =
      rw (turned e.0 k Less (front (λ e. text_cmp e.0 k ≡ Less) e es i low))
      (ap (λ l. e ∷ l) (put_in_gap es k v i (omega (arith, inside)) (behind_all (λ e. text_cmp e.0 k ≡ Less) e es i low) (behind (λ e. text_cmp e.0 k ≡ Greater) e es i (length es) high)))

  -- another value at a key that is there
  put_at : (es : List (List ℕ × X)) (k : List ℕ) (v : X) (i : ℕ) (d : List ℕ × X) → i < length es → AllWithin (λ e. text_cmp e.0 k ≡ Less) es 0 i → HoldsAt (λ e. text_cmp e.0 k ≡ Equal) es i → set es i ((get_or es i d).0, v) ≡ put text_cmp k v es
  put_at [] k v i d inside low same = absurd (omega (arith, inside))
  put_at (e ∷ es) k v zero d inside low same = rw (turned e.0 k Equal (same e)) refl
  put_at (e ∷ es) k v (suc i) d inside low same =
      rw (turned e.0 k Less (front (λ e. text_cmp e.0 k ≡ Less) e es i low))
      (ap (λ l. e ∷ l) (put_at es k v i d (omega (arith, inside)) (behind_all (λ e. text_cmp e.0 k ≡ Less) e es i low) same))

  -- the key that is there, and its row
  found_at : (es : List (List ℕ × X)) (k : List ℕ) (i : ℕ) (d : List ℕ × X) → i < length es → AllWithin (λ e. text_cmp e.0 k ≡ Less) es 0 i → HoldsAt (λ e. text_cmp e.0 k ≡ Equal) es i → lookup (is_at (text_cmp k)) es ≡ Some (get_or es i d).1
  found_at [] k i d inside low same = absurd (omega (arith, inside))
  found_at (e ∷ es) k zero d inside low same = rw (turned e.0 k Equal (same e)) refl
  found_at (e ∷ es) k (suc i) d inside low same =
      rw (turned e.0 k Less (front (λ e. text_cmp e.0 k ≡ Less) e es i low))
      (found_at es k i d (omega (arith, inside)) (behind_all (λ e. text_cmp e.0 k ≡ Less) e es i low) same)

  removed_at : (es : List (List ℕ × X)) (k : List ℕ) (i : ℕ) → i < length es → AllWithin (λ e. text_cmp e.0 k ≡ Less) es 0 i → HoldsAt (λ e. text_cmp e.0 k ≡ Equal) es i → remove es i ≡ remove_entry (is_at (text_cmp k)) es
  removed_at [] k i inside low same = absurd (omega (arith, inside))
  removed_at (e ∷ es) k zero inside low same = rw (turned e.0 k Equal (same e)) refl
  removed_at (e ∷ es) k (suc i) inside low same =
      rw (turned e.0 k Less (front (λ e. text_cmp e.0 k ≡ Less) e es i low))
      (ap (λ l. e ∷ l) (removed_at es k i (omega (arith, inside)) (behind_all (λ e. text_cmp e.0 k ≡ Less) e es i low) same))

  -- a key that has a gap is not there
  none_in_gap : (es : List (List ℕ × X)) (k : List ℕ) (i : ℕ) → i ≤ length es → AllWithin (λ e. text_cmp e.0 k ≡ Less) es 0 i → AllWithin (λ e. text_cmp e.0 k ≡ Greater) es i (length es) → lookup (is_at (text_cmp k)) es ≡ None
  none_in_gap [] k i inside low high = refl
  none_in_gap (e ∷ es) k zero inside low high =
      rw (turned e.0 k Greater (front (λ e. text_cmp e.0 k ≡ Greater) e es (length es) high))
      (none_in_gap es k zero (omega arith) (λ k d low high. absurd (omega (arith, high))) (behind_all (λ e. text_cmp e.0 k ≡ Greater) e es (length es) high))
  none_in_gap (e ∷ es) k (suc i) inside low high =
      rw (turned e.0 k Less (front (λ e. text_cmp e.0 k ≡ Less) e es i low))
      (none_in_gap es k i (omega (arith, inside)) (behind_all (λ e. text_cmp e.0 k ≡ Less) e es i low) (behind (λ e. text_cmp e.0 k ≡ Greater) e es i (length es) high))

  nothing_removed : (es : List (List ℕ × X)) (k : List ℕ) → lookup (is_at (text_cmp k)) es ≡ None → remove_entry (is_at (text_cmp k)) es ≡ es
  nothing_removed [] k none = refl
  nothing_removed (e ∷ es) k none =
      elim (is_at (text_cmp k) e.0) as (λ b. cond b (Some e.1) (lookup (is_at (text_cmp k)) es) ≡ None → cond b es (e ∷ remove_entry (is_at (text_cmp k)) es) ≡ e ∷ es) [
        | true ↦ λ some. absurd (none_is some)
        | false ↦ λ none. ap (λ l. e ∷ l) (nothing_removed es k none)
      ] none
    where
      none_is : {x : X} → Some x ≡ None → ⊥
      none_is is = cc

  pub put_into : (es : List (List ℕ × X)) (k : List ℕ) (v : X) (i : ℕ) → IsGapFor es k i → insert es i (k, v) ≡ put text_cmp k v es
  put_into es k v i gap = put_in_gap es k v i gap.inside gap.lower gap.higher

  pub put_over : (es : List (List ℕ × X)) (k : List ℕ) (v : X) (i : ℕ) (d : List ℕ × X) → StandsAt es k i → set es i ((get_or es i d).0, v) ≡ put text_cmp k v es
  put_over es k v i d at = put_at es k v i d at.inside at.lower at.same

  pub found : (es : List (List ℕ × X)) (k : List ℕ) (i : ℕ) (d : List ℕ × X) → StandsAt es k i → lookup (is_at (text_cmp k)) es ≡ Some (get_or es i d).1
  found es k i d at = found_at es k i d at.inside at.lower at.same

  pub there : (es : List (List ℕ × X)) (k : List ℕ) (i : ℕ) → StandsAt es k i → is_some (lookup (is_at (text_cmp k)) es) ≡ true
  there [] k i at = absurd (omega (arith, at.inside))
  there (e ∷ es) k i at = ap is_some (found (e ∷ es) k i e at)

  pub missing : (es : List (List ℕ × X)) (k : List ℕ) (i : ℕ) → IsGapFor es k i → lookup (is_at (text_cmp k)) es ≡ None
  missing es k i gap = none_in_gap es k i gap.inside gap.lower gap.higher

  pub removed : (es : List (List ℕ × X)) (k : List ℕ) (i : ℕ) → StandsAt es k i → remove es i ≡ remove_entry (is_at (text_cmp k)) es
  removed es k i at = removed_at es k i at.inside at.lower at.same

  pub not_removed : (es : List (List ℕ × X)) (k : List ℕ) (i : ℕ) → IsGapFor es k i → es ≡ remove_entry (is_at (text_cmp k)) es
  not_removed es k i gap = sym (nothing_removed es k (missing es k i gap))

  -- the keys still rise
  same_keys : (C : X → X → Type 0) (es fs : List (List ℕ × X)) → AllZip (λ p q. (q.0 ≡ p.0) × C p.1 q.1) es fs → map (λ e. e.0) fs ≡ map (λ e. e.0) es
  same_keys C [] [] zip = refl
  same_keys C [] (f ∷ fs) zip = absurd zip
  same_keys C (e ∷ es) [] zip = absurd zip
  same_keys C (e ∷ es) (f ∷ fs) zip = λ i. zip.0.0 i ∷ same_keys C es fs zip.1 i

  pub rise_copied : (C : X → X → Type 0) (es fs : List (List ℕ × X)) → AllZip (λ p q. (q.0 ≡ p.0) × C p.1 q.1) es fs → Rise es → Rise fs
  rise_copied C es fs zip rise = subst (IsStrictlySortedBy text_cmp) (sym (same_keys C es fs zip)) rise

  below_put : (x k : List ℕ) (v : X) (es : List (List ℕ × X)) → text_cmp x k ≡ Less → AllByRecursion (λ y. text_cmp x y ≡ Less) (map (λ e. e.0) es) → AllByRecursion (λ y. text_cmp x y ≡ Less) (map (λ e. e.0) (put text_cmp k v es))
  below_put x k v [] less all = (less, all)
  below_put x k v (e ∷ es) less all =
      elim (text_cmp k e.0) as (λ o. AllByRecursion (λ y. text_cmp x y ≡ Less) (map (λ e. e.0) (by_order o ((k, v) ∷ e ∷ es) ((e.0, v) ∷ es) (e ∷ put text_cmp k v es)))) [
        | Less ↦ (less, all)
        | Equal ↦ all
        | Greater ↦ (all.0, below_put x k v es less all.1)
      ]

  pub rise_put : (k : List ℕ) (v : X) (es : List (List ℕ × X)) → Rise es → Rise (put text_cmp k v es)
  unfolding IsStrictlySortedBy
  rise_put k v [] rise = (tt, tt)
  rise_put k v (e ∷ es) rise =
      elim (text_cmp k e.0) as (λ o. text_cmp k e.0 ≡ o → Rise (by_order o ((k, v) ∷ e ∷ es) ((e.0, v) ∷ es) (e ∷ put text_cmp k v es))) [
        | Less ↦ λ is. ((is, below_lower k e.0 (map (λ e. e.0) es) is rise.0), rise)
        | Equal ↦ λ is. rise
        | Greater ↦ λ is. (below_put e.0 k v es (turned k e.0 Greater is) rise.0, rise_put k v es rise.1)
      ] refl

  below_removed : (P : List ℕ → Type 0) (test : List ℕ → Bool) (es : List (List ℕ × X)) → AllByRecursion P (map (λ e. e.0) es) → AllByRecursion P (map (λ e. e.0) (remove_entry test es))
  below_removed P test [] all = all
  below_removed P test (e ∷ es) all =
      elim (test e.0) as (λ b. AllByRecursion P (map (λ e. e.0) (cond b es (e ∷ remove_entry test es)))) [
        | true ↦ all.1
        | false ↦ (all.0, below_removed P test es all.1)
      ]

  pub rise_removed : (test : List ℕ → Bool) (es : List (List ℕ × X)) → Rise es → Rise (remove_entry test es)
  unfolding IsStrictlySortedBy
  rise_removed test [] rise = rise
  rise_removed test (e ∷ es) rise =
      elim (test e.0) as (λ b. Rise (cond b es (e ∷ remove_entry test es))) [
        | true ↦ rise.1
        | false ↦ (below_removed (λ y. text_cmp e.0 y ≡ Less) test es rise.0, rise_removed test es rise.1)
      ]

module _ {X : Type 0} (datum : X → Datum) where
  put_data : (k : List ℕ) (v : X) (es : List (List ℕ × X)) → as_data datum (put text_cmp k v es) ≡ put text_cmp k (datum v) (as_data datum es)
  put_data k v [] = refl
  put_data k v (e ∷ es) =
      elim (text_cmp k e.0) as (λ o. as_data datum (by_order o ((k, v) ∷ e ∷ es) ((e.0, v) ∷ es) (e ∷ put text_cmp k v es)) ≡ by_order o ((k, datum v) ∷ as_data datum (e ∷ es)) ((e.0, datum v) ∷ as_data datum es) ((e.0, datum e.1) ∷ put text_cmp k (datum v) (as_data datum es))) [
        | Less ↦ refl
        | Equal ↦ refl
        | Greater ↦ ap (λ l. (e.0, datum e.1) ∷ l) (put_data k v es)
      ]

  -- a row more, or one that is changed
  pub stored_row : (es : List (List ℕ × X)) (k : List ℕ) (v : X) → Rise es → map.from_entries {R = text_cmp} (as_data datum (put text_cmp k v es)) ≡ map.insert (map.from_entries (as_data datum es)) k (datum v)
  stored_row es k v rise = map.same_entries_map _ _ (
      in_order datum (put text_cmp k v es) (rise_put k v es rise) ∙ put_data k v es ∙ ap (put text_cmp k (datum v)) (sym (in_order datum es rise))
      ∙ sym (map.entries-insert nat_list_cmp_total (map.from_entries {R = text_cmp} (as_data datum es)) k (datum v)))

  tied : (x y : List ℕ) → eq_by_cmp text_cmp x y ≡ true → text_cmp x y ≡ Equal
  tied x y is = elim (text_cmp x y) as (λ o. is_eq o ≡ true → o ≡ Equal) [ Less ↦ λ e. cc | Equal ↦ λ e. refl | Greater ↦ λ e. cc ] is

  -- a row less
  pub erased_row : (es : List (List ℕ × X)) (k : List ℕ) → Rise es → map.from_entries {R = text_cmp} (as_data datum (remove_entry (is_at (text_cmp k)) es)) ≡ map.remove (map.from_entries (as_data datum es)) k
  erased_row es k rise = erased datum es (remove_entry (is_at (text_cmp k)) es) k (λ q.
      lookup-remove_entry (eq_by_cmp_equiv nat_list_cmp_total) (is_at (text_cmp k)) (λ x y is. ap is_eq (nat_list_cmp_total.congr k x y (tied k x is))) q es (IsDistinct-from_sorted text_cmp (map (λ e. e.0) es) rise))
