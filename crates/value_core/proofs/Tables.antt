-- The rows of a program's map, as a finite map.
use Rattle.std.proofs.Common.{◌≡◌, ℕ, Bool, true, false, cond, List, [], ◌∷◌, Option, Some, None, length, refl, sym, ap, ◌∙◌}
use Rattle.std.specs.Prelude.{map, is_some, option_map}
use Rattle.std.specs.Cmp.{eq_by_cmp_equiv}
use Rattle.std.specs.Cmp.Lexicographic.{nat_list_cmp_total}
use Rattle.std.specs.FinMap.{find, put, empty, from_sorted, get-empty, get-from_sorted, entries-from_sorted, entries-insert, get, len, len-entries, insert, remove, contains_key, entries, from_entries, get-from_entries, get-insert, get-remove, same_map, IsAntisymmetric, slice_cmp-IsAntisymmetric, nat_cmp-IsAntisymmetric}
use Rattle.std.specs.BTreeMap.{is_at}
use Rattle.std.specs.Map.{lookup}
use Rattle.std.specs.List.Sorted.{IsStrictlySortedBy}
use Rattle.std.proofs.lemmas.List.{length-map}
use Rattle.value_core.specs.declared.datum.Datum.{Datum}
use Rattle.value_core.specs.TextOrder.{text_cmp}
use Rattle.value_core.specs.Rows.{as_data}

pub exact_texts : IsAntisymmetric text_cmp
exact_texts = slice_cmp-IsAntisymmetric nat_cmp-IsAntisymmetric

pub none_of : {X : Type 0} → entries (empty {X = X} {R = text_cmp}) ≡ []
none_of {X} = ap entries (same_map nat_list_cmp_total exact_texts empty (from_sorted []) (λ q. get-empty text_cmp q ∙ sym (get-from_sorted text_cmp [] q tt))) ∙ entries-from_sorted text_cmp [] tt

module _ {X : Type 0} (datum : X → Datum) where
  -- what a list of rows has under a text
  abbrev pub value_at : List (List ℕ × X) → List ℕ → Option X
  value_at es q = lookup (is_at (text_cmp q)) es

  find_at : (es : List (List ℕ × X)) (q : List ℕ) → find text_cmp q (as_data datum es) ≡ option_map datum (value_at es q)
  find_at [] q = refl
  find_at (e ∷ es) q = elim (is_at (text_cmp q) e.0) as (λ b. cond b (Some (datum e.1)) (find text_cmp q (as_data datum es)) ≡ option_map datum (cond b (Some e.1) (value_at es q))) [ true ↦ refl | false ↦ find_at es q ]

  pub get_at : (es : List (List ℕ × X)) (q : List ℕ) → get (from_entries {R = text_cmp} (as_data datum es)) q ≡ option_map datum (value_at es q)
  get_at es q = get-from_entries nat_list_cmp_total (as_data datum es) q ∙ find_at es q

  mapped : (b : Bool) (o r : Option X) → option_map datum (cond b o r) ≡ cond b (option_map datum o) (option_map datum r)
  mapped true o r = refl
  mapped false o r = refl

  is_some-mapped : (o : Option X) → is_some (option_map datum o) ≡ is_some o
  is_some-mapped (Some x) = refl
  is_some-mapped None = refl

  pub has_at : (es : List (List ℕ × X)) (q : List ℕ) → contains_key (from_entries {R = text_cmp} (as_data datum es)) q ≡ is_some (value_at es q)
  has_at es q = ap is_some (get_at es q) ∙ is_some-mapped (value_at es q)

  pub stored : (es fs : List (List ℕ × X)) (k : List ℕ) (v : X) → ((q : List ℕ) → value_at fs q ≡ cond (is_at (text_cmp k) q) (Some v) (value_at es q)) → from_entries {R = text_cmp} (as_data datum fs) ≡ insert (from_entries (as_data datum es)) k (datum v)
  stored es fs k v h = same_map nat_list_cmp_total exact_texts _ _ (λ q.
      get_at fs q ∙ ap (option_map datum) (h q) ∙ mapped (is_at (text_cmp k) q) (Some v) (value_at es q)
      ∙ ap (λ b. cond b (Some (datum v)) (option_map datum (value_at es q))) ((eq_by_cmp_equiv nat_list_cmp_total).symm k q)
      ∙ sym (get-insert nat_list_cmp_total (from_entries (as_data datum es)) k (datum v) q ∙ ap (cond (is_at (text_cmp q) k) (Some (datum v))) (get_at es q)))

  pub erased : (es fs : List (List ℕ × X)) (k : List ℕ) → ((q : List ℕ) → value_at fs q ≡ cond (is_at (text_cmp k) q) None (value_at es q)) → from_entries {R = text_cmp} (as_data datum fs) ≡ remove (from_entries (as_data datum es)) k
  erased es fs k h = same_map nat_list_cmp_total exact_texts _ _ (λ q.
      get_at fs q ∙ ap (option_map datum) (h q) ∙ mapped (is_at (text_cmp k) q) None (value_at es q)
      ∙ ap (λ b. cond b None (option_map datum (value_at es q))) ((eq_by_cmp_equiv nat_list_cmp_total).symm k q)
      ∙ sym (get-remove nat_list_cmp_total (from_entries (as_data datum es)) k q ∙ ap (cond (is_at (text_cmp q) k) None) (get_at es q)))

  put_front : (e : List ℕ × X) (es : List (List ℕ × X)) → IsStrictlySortedBy text_cmp (map (λ x. x.0) (e ∷ es)) → put text_cmp e.0 (datum e.1) (as_data datum es) ≡ as_data datum (e ∷ es)
  unfolding IsStrictlySortedBy
  put_front e [] h = refl
  put_front e (f ∷ es) h = rw h.0.0 refl

  -- rows that strictly rise are the map's rows, in order
  pub in_order : (es : List (List ℕ × X)) → IsStrictlySortedBy text_cmp (map (λ x. x.0) es) → entries (from_entries {R = text_cmp} (as_data datum es)) ≡ as_data datum es
  unfolding IsStrictlySortedBy
  in_order [] h = none_of
  in_order (e ∷ es) h = entries-insert nat_list_cmp_total (from_entries (as_data datum es)) e.0 (datum e.1) ∙ ap (put text_cmp e.0 (datum e.1)) (in_order es h.1) ∙ put_front e es h

  pub count_at : (es : List (List ℕ × X)) → IsStrictlySortedBy text_cmp (map (λ x. x.0) es) → length es ≡ len (from_entries {R = text_cmp} (as_data datum es))
  count_at es h = sym (len-entries (from_entries (as_data datum es)) ∙ ap length (in_order es h) ∙ length-map es (λ e. (e.0, datum e.1)))
