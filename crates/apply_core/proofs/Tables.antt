-- What the operations on a table do to its bytes.
use Rattle.std.proofs.Common.{◌≡◌, ℕ, ◌+◌, ◌-◌, ◌<◌, ◌≤◌, Bool, true, false, T, List, [], ◌∷◌, ◌++◌, Some, None, length, Ok, Err, IsOk, inl, inr, refl, sym, ap, ◌∙◌, subst, append_assoc, arith, length-append}
use Rattle.std.specs.Prelude.{All, map, nat_lt, ◌||◌, ◌&&◌, if◌then◌else◌, is_some, ok_or, IsTrue, IsFalse}
use Rattle.std.specs.List.{flat_map, AllByRecursion}
use Rattle.std.specs.List.Sorted.{IsStrictlySortedBy}
use Rattle.std.specs.Map.{remove_entry}
use Rattle.std.specs.BTreeMap.{is_at}
use Rattle.std.specs.declared.cmp.Ordering.{Ordering}
use Rattle.std.specs.declared.cmp.Ordering.TheVariants.{Less, Equal, Greater}
use Rattle.std.specs.Ordering.{is_lt, ordering_reverse}
use Rattle.std.specs.Cmp.{tied_itself}
use Rattle.std.specs.Cmp.Lexicographic.{nat_list_cmp_total}
use Rattle.std.specs.FinMap as maps
use Rattle.std.specs.FinMap.{put, find, is_sorted}
use Rattle.std.specs.FinMap.Entries.{below_all, by_order}
use Rattle.std.proofs.lemmas.List.Elements.{All-cons}
use Rattle.std.proofs.lemmas.Grind.{flat_map-append}
use Rattle.value_core.specs.TextOrder.{text_cmp}
use Rattle.value_core.specs.declared.format.Format.TheVariants.{Second}
use Rattle.value_core.specs.declared.datum.Datum.{Datum}
use Rattle.value_core.specs.declared.kind.Elem.{Elem}
use Rattle.value_core.specs.declared.kind.Kind.TheVariants as kind
use Rattle.value_core.specs.declared.refusal.Refusal.TheVariants.{Full, Missing}
use Rattle.value_core.specs.Limits.{most_elements}
use Rattle.value_core.specs.Datum.{IsElement}
use Rattle.value_core.specs.Rows.{as_data}
use Rattle.value_core.specs.Sorted.{Rise}
use Rattle.value_core.specs.Contents.{Contents, table, IsRow, AreRows}
use Rattle.value_core.specs.Meaning.{has_key, under_key, with_row, without_key}
use Rattle.value_bytes.specs.Spelling.{spelled_datum, spelled_row, header, Spells, SpellRows}
use Rattle.value_core.proofs.TableRows.{head, tail, rows_stored, made_room}
use Rattle.value_core.proofs.Tables.{in_order}
use Rattle.value_core.proofs.Placing.{erased_row, rise_removed}
use Rattle.apply_core.specs.Cuts.{IsLower, IsHigher, StandsIn, GapIn}
use Rattle.apply_core.specs.Remade.{SpellNew}
use Rattle.apply_core.proofs.Shapes.{table_in, table_spells, is_less, not_less, ok_of}
use Rattle.apply_core.proofs.Queues.{IsOpened}

turned : (x y : List ℕ) (o : Ordering) → text_cmp x y ≡ o → text_cmp y x ≡ ordering_reverse o
turned x y o is = nat_list_cmp_total.antisymm y x ∙ ap ordering_reverse is

itself : (key : List ℕ) → text_cmp key key ≡ Equal
itself key = tied_itself nat_list_cmp_total key

-- a search passes lower keys,
pub find_past : (key : List ℕ) (before rest : List (List ℕ × Datum)) → All (IsLower key) before → find text_cmp key (before ++ rest) ≡ find text_cmp key rest
find_past key [] rest lower = refl
find_past key (r ∷ before) rest lower =
    rw (turned r.0 key Less (head (IsLower key) r before lower)) (find_past key before rest (tail (IsLower key) r before lower))

-- and ends at higher ones
pub find_none : (key : List ℕ) (later : List (List ℕ × Datum)) → All (IsHigher key) later → find text_cmp key later ≡ None
find_none key [] higher = refl
find_none key (r ∷ later) higher =
    rw (turned r.0 key Greater (head (IsHigher key) r later higher)) (find_none key later (tail (IsHigher key) r later higher))

pub find_here : (key : List ℕ) (d : Datum) (later : List (List ℕ × Datum)) → find text_cmp key ((key, d) ∷ later) ≡ Some d
find_here key d later = rw (itself key) refl

pub put_past : (key : List ℕ) (v : Datum) (before rest : List (List ℕ × Datum)) → All (IsLower key) before → put text_cmp key v (before ++ rest) ≡ before ++ put text_cmp key v rest
put_past key v [] rest lower = refl
put_past key v (r ∷ before) rest lower =
    ap (λ o. by_order o ((key, v) ∷ r ∷ before ++ rest) ((r.0, v) ∷ before ++ rest) (r ∷ put text_cmp key v (before ++ rest))) (turned r.0 key Less (head (IsLower key) r before lower))
    ∙ ap (λ (l : List (List ℕ × Datum)). r ∷ l) (put_past key v before rest (tail (IsLower key) r before lower))

pub put_here : (key : List ℕ) (v d : Datum) (later : List (List ℕ × Datum)) → put text_cmp key v ((key, d) ∷ later) ≡ (key, v) ∷ later
put_here key v d later = ap (λ o. by_order o ((key, v) ∷ (key, d) ∷ later) ((key, v) ∷ later) ((key, d) ∷ put text_cmp key v later)) (itself key)

pub put_front : (key : List ℕ) (v : Datum) (later : List (List ℕ × Datum)) → All (IsHigher key) later → put text_cmp key v later ≡ (key, v) ∷ later
put_front key v [] higher = refl
put_front key v (r ∷ later) higher = ap (λ o. by_order o ((key, v) ∷ r ∷ later) ((r.0, v) ∷ later) (r ∷ put text_cmp key v later)) (turned r.0 key Greater (head (IsHigher key) r later higher))

pub remove_past : (key : List ℕ) (d : Datum) (before later : List (List ℕ × Datum)) → All (IsLower key) before → remove_entry (is_at (text_cmp key)) (before ++ (key, d) ∷ later) ≡ before ++ later
remove_past key d [] later lower = rw (itself key) refl
remove_past key d (r ∷ before) later lower =
    rw (turned r.0 key Less (head (IsLower key) r before lower)) (ap (λ (l : List (List ℕ × Datum)). r ∷ l) (remove_past key d before later (tail (IsLower key) r before lower)))

first_of : (a b : Bool) → T (a && b) → T a
first_of true b p = tt
first_of false b p = absurd p

second_of : (a b : Bool) → T (a && b) → T b
second_of true b p = p
second_of false b p = absurd p

less_of : (o : Ordering) → T (is_lt o) → o ≡ Less
less_of Less p = refl
less_of Equal p = absurd p
less_of Greater p = absurd p

below : (x : List ℕ) (rows : List (List ℕ × Datum)) → T (below_all text_cmp x rows) → AllByRecursion (λ y. text_cmp x y ≡ Less) (map (λ e. e.0) rows)
below x [] h = tt
below x (r ∷ rows) h = (less_of _ (first_of _ _ h), below x rows (second_of _ _ h))

rise_of : (rows : List (List ℕ × Datum)) → T (is_sorted text_cmp rows) → Rise rows
unfolding IsStrictlySortedBy
rise_of [] h = tt
rise_of (r ∷ rows) h = (below r.0 rows (first_of _ _ h), rise_of rows (second_of _ _ h))

same_data : (rows : List (List ℕ × Datum)) → as_data (λ d. d) rows ≡ rows
same_data [] = refl
same_data (r ∷ rows) = ap (λ (l : List (List ℕ × Datum)). r ∷ l) (same_data rows)

remade_map : (m : maps.FinMap text_cmp Datum) → maps.from_entries {R = text_cmp} (as_data (λ d. d) (maps.entries m)) ≡ m
remade_map m = maps.same_entries_map _ _ (in_order (λ d. d) (maps.entries m) (rise_of (maps.entries m) (maps.entries_sorted m)) ∙ same_data (maps.entries m))

-- the rows without a key
pub removed_entries : (m : maps.FinMap text_cmp Datum) (key : List ℕ) → maps.entries (maps.remove m key) ≡ remove_entry (is_at (text_cmp key)) (maps.entries m)
removed_entries m key =
    let es = maps.entries m in
    let rise = rise_of es (maps.entries_sorted m) in
    let fs = remove_entry (is_at (text_cmp key)) es in
    sym (ap (λ n. maps.entries (maps.remove n key)) (remade_map m)) ∙ sym (ap maps.entries (erased_row (λ d. d) es key rise)) ∙ in_order (λ d. d) fs (rise_removed (is_at (text_cmp key)) es rise) ∙ same_data fs

-- the rows of a table, as a search finds them
rows_in : (bytes entries : List ℕ) (e : Elem) (count : ℕ) (v : Contents) → Spells bytes (kind.Table e) v → IsOpened bytes count entries v → (m : maps.FinMap text_cmp Datum) × (v ≡ table e m) × AreRows e m × (count ≡ maps.len m) × SpellRows Second entries e count m
rows_in bytes entries e count v is opened =
    let t = table_in bytes e v is in
    let many : count ≡ maps.len t.m = opened.0 ∙ t.count in
    (t.m, t.is, t.rows, many, record { each = t.rows.each; many = sym many; spelled = opened.1 ∙ t.behind })

module _ (bytes entries : List ℕ) (e : Elem) (count : ℕ) (key rest value : List ℕ) (stands : (m : maps.FinMap text_cmp Datum) → SpellRows Second entries e count m → StandsIn (maps.entries m) key entries rest value) (v : Contents) (is : Spells bytes (kind.Table e) v) (opened : IsOpened bytes count entries v) where
  got : (m : maps.FinMap text_cmp Datum) (so : StandsIn (maps.entries m) key entries rest value) → maps.get m key ≡ Some so.d
  got m so = maps.get-entries m key ∙ ap (λ (es : List (List ℕ × Datum)). find text_cmp key es) so.parts ∙ find_past key so.before ((key, so.d) ∷ so.later) so.lower ∙ find_here key so.d so.later

  has_it : (m : maps.FinMap text_cmp Datum) (so : StandsIn (maps.entries m) key entries rest value) → maps.contains_key m key ≡ true
  has_it m so = ap is_some (got m so)

  element : (m : maps.FinMap text_cmp Datum) (so : StandsIn (maps.entries m) key entries rest value) → AreRows e m → IsElement e so.d
  element m so rows = (head (IsRow e) (key, so.d) so.later (behind (IsRow e) so.before ((key, so.d) ∷ so.later) (subst (All (IsRow e)) so.parts rows.each))).element
    where
      behind : {X : Type 0} (P : X → Type 0) (xs ys : List X) → All P (xs ++ ys) → All P ys
      behind P [] ys each = each
      behind P (x ∷ xs) ys each = behind P xs ys (tail P x (xs ++ ys) each)

  pub is_there : has_key v key ≡ true
  is_there =
      let t = rows_in bytes entries e count v is opened in
      ap (λ w. has_key w key) t.1 ∙ has_it t.0 (stands t.0 t.4)

  pub under_it : (d : Datum) → ((x : Datum) (r : List ℕ) → IsElement e x → value ≡ spelled_datum x ++ r → d ≡ x) → under_key v key ≡ ok_of d
  under_it d read =
      let t = rows_in bytes entries e count v is opened in
      let so = stands t.0 t.4 in
      let same : d ≡ so.d = read so.d (flat_map spelled_row so.later) (element t.0 so t.2) so.back in
      ap (λ w. under_key w key) t.1 ∙ ap (λ o. ok_or o Missing) (got t.0 so) ∙ ap (λ (y : Datum). ok_of y) (sym same)

  pub no_value_there : ((x : Datum) (r : List ℕ) → IsElement e x → value ≡ spelled_datum x ++ r → ⊥) → ⊥
  no_value_there none =
      let t = rows_in bytes entries e count v is opened in
      let so = stands t.0 t.4 in
      none so.d (flat_map spelled_row so.later) (element t.0 so t.2) so.back

  over_value : (m : maps.FinMap text_cmp Datum) (so : StandsIn (maps.entries m) key entries rest value) (d : Datum) → with_row (table e m) key d ≡ Ok (table e (maps.insert m key d))
  over_value m so d = ap (λ b. if b || nat_lt (maps.len m) most_elements then ok_of (table e (maps.insert m key d)) else Err Full) (has_it m so)

  pub over : (front next out : List ℕ) (d : Datum) → IsRow e (key, d) → ((f : List ℕ) → entries ≡ f ++ rest → front ≡ f) → ((x : Datum) (r : List ℕ) → IsElement e x → value ≡ spelled_datum x ++ r → next ≡ r)
      → out ≡ ((header (kind.Table e) count ++ front) ++ spelled_row (key, d)) ++ next → SpellNew (kind.Table e) out (with_row v key d)
  over front next out d row before skipped made =
      let t = rows_in bytes entries e count v is opened in
      let m = t.0 in
      let so = stands m t.4 in
      let es : List (List ℕ × Datum) = so.before ++ (key, d) ∷ so.later in
      let now : maps.entries (maps.insert m key d) ≡ es = maps.entries-insert nat_list_cmp_total m key d ∙ ap (λ (l : List (List ℕ × Datum)). put text_cmp key d l) so.parts ∙ put_past key d so.before ((key, so.d) ∷ so.later) so.lower ∙ ap (λ (l : List (List ℕ × Datum)). so.before ++ l) (put_here key d so.d so.later) in
      let many : length es ≡ count = omega (arith, length-append so.before ((key, d) ∷ so.later), length-append so.before ((key, so.d) ∷ so.later), ap length so.parts, maps.len-entries m, t.3) in
      let front_is : front ≡ flat_map spelled_row so.before = before (flat_map spelled_row so.before) so.front in
      let next_is : next ≡ flat_map spelled_row so.later = skipped so.d (flat_map spelled_row so.later) (element m so t.2) so.back in (
        table e (maps.insert m key d),
        ap (λ w. with_row w key d) t.1 ∙ over_value m so d,
        table_spells out e count (maps.insert m key d) es (rows_stored e m key d t.2 row (made_room (maps.contains_key m key) (maps.len m) (inl (has_it m so)))) now many
            (made ∙ put_together (header (kind.Table e) count) front next so.before so.later (key, d) front_is next_is),
      )
    where
      put_together : (head front next : List ℕ) (before later : List (List ℕ × Datum)) (row : List ℕ × Datum) → front ≡ flat_map spelled_row before → next ≡ flat_map spelled_row later
          → ((head ++ front) ++ spelled_row row) ++ next ≡ head ++ flat_map spelled_row (before ++ row ∷ later)
      put_together head front next before later row f n =
          append_assoc (head ++ front) (spelled_row row) next ∙ append_assoc head front (spelled_row row ++ next)
          ∙ (λ i. head ++ (f i ++ (spelled_row row ++ n i))) ∙ ap (λ (r : List ℕ). head ++ r) (sym (flat_map-append spelled_row before (row ∷ later)))

  pub over_ok : (d : Datum) → IsOk (with_row v key d)
  over_ok d =
      let t = rows_in bytes entries e count v is opened in
      subst IsOk (sym (ap (λ w. with_row w key d) t.1 ∙ over_value t.0 (stands t.0 t.4) d)) refl

  gone_value : (m : maps.FinMap text_cmp Datum) (so : StandsIn (maps.entries m) key entries rest value) → without_key (table e m) key ≡ Ok (table e (maps.remove m key))
  gone_value m so = ap (λ b. if b then ok_of (table e (maps.remove m key)) else Err Missing) (has_it m so)

  pub gone : (front next out : List ℕ) → ((f : List ℕ) → entries ≡ f ++ rest → front ≡ f) → ((x : Datum) (r : List ℕ) → IsElement e x → value ≡ spelled_datum x ++ r → next ≡ r)
      → out ≡ (header (kind.Table e) (count - 1) ++ front) ++ next → SpellNew (kind.Table e) out (without_key v key)
  gone front next out before skipped made =
      let t = rows_in bytes entries e count v is opened in
      let m = t.0 in
      let so = stands m t.4 in
      let es : List (List ℕ × Datum) = so.before ++ so.later in
      let now : maps.entries (maps.remove m key) ≡ es = removed_entries m key ∙ ap (λ (l : List (List ℕ × Datum)). remove_entry (is_at (text_cmp key)) l) so.parts ∙ remove_past key so.d so.before so.later so.lower in
      let was : length (maps.entries m) ≡ count = sym (maps.len-entries m) ∙ sym t.3 in
      let many : length es ≡ count - 1 = omega (arith, length-append so.before so.later, length-append so.before ((key, so.d) ∷ so.later), ap length so.parts, was) in
      let front_is : front ≡ flat_map spelled_row so.before = before (flat_map spelled_row so.before) so.front in
      let next_is : next ≡ flat_map spelled_row so.later = skipped so.d (flat_map spelled_row so.later) (element m so t.2) so.back in
      let each : All (IsRow e) es = less so.before so.later (key, so.d) (subst (All (IsRow e)) so.parts t.2.each) in
      let few : maps.len (maps.remove m key) ≤ most_elements = omega (arith, maps.len-entries (maps.remove m key), ap length now, many, t.3, t.2.few) in (
        table e (maps.remove m key),
        ap (λ w. without_key w key) t.1 ∙ gone_value m so,
        table_spells out e (count - 1) (maps.remove m key) es (record { each = subst (All (IsRow e)) (sym now) each; few = few }) now many
            (made ∙ put_together (header (kind.Table e) (count - 1)) front next so.before so.later front_is next_is),
      )
    where
      less : (before later : List (List ℕ × Datum)) (row : List ℕ × Datum) → All (IsRow e) (before ++ row ∷ later) → All (IsRow e) (before ++ later)
      less [] later row each = tail (IsRow e) row later each
      less (r ∷ before) later row each = All-cons (IsRow e) r (before ++ later) (head (IsRow e) r (before ++ row ∷ later) each) (less before later row (tail (IsRow e) r (before ++ row ∷ later) each))

      put_together : (head front next : List ℕ) (before later : List (List ℕ × Datum)) → front ≡ flat_map spelled_row before → next ≡ flat_map spelled_row later → (head ++ front) ++ next ≡ head ++ flat_map spelled_row (before ++ later)
      put_together head front next before later f n =
          append_assoc head front next ∙ (λ i. head ++ (f i ++ n i)) ∙ ap (λ (r : List ℕ). head ++ r) (sym (flat_map-append spelled_row before later))

  pub gone_ok : IsOk (without_key v key)
  gone_ok =
      let t = rows_in bytes entries e count v is opened in
      subst IsOk (sym (ap (λ w. without_key w key) t.1 ∙ gone_value t.0 (stands t.0 t.4))) refl

module _ (bytes entries : List ℕ) (e : Elem) (count : ℕ) (key rest : List ℕ) (gap : (m : maps.FinMap text_cmp Datum) → SpellRows Second entries e count m → GapIn (maps.entries m) key entries rest) (v : Contents) (is : Spells bytes (kind.Table e) v) (opened : IsOpened bytes count entries v) where
  none_got : (m : maps.FinMap text_cmp Datum) (so : GapIn (maps.entries m) key entries rest) → maps.get m key ≡ None
  none_got m so = maps.get-entries m key ∙ ap (λ (es : List (List ℕ × Datum)). find text_cmp key es) so.parts ∙ find_past key so.before so.later so.lower ∙ find_none key so.later so.higher

  has_none : (m : maps.FinMap text_cmp Datum) (so : GapIn (maps.entries m) key entries rest) → maps.contains_key m key ≡ false
  has_none m so = ap is_some (none_got m so)

  pub is_missing : has_key v key ≡ false
  is_missing =
      let t = rows_in bytes entries e count v is opened in
      ap (λ w. has_key w key) t.1 ∙ has_none t.0 (gap t.0 t.4)

  pub under_none : under_key v key ≡ Err Missing
  under_none =
      let t = rows_in bytes entries e count v is opened in
      ap (λ w. under_key w key) t.1 ∙ ap (λ o. ok_or o Missing) (none_got t.0 (gap t.0 t.4))

  pub none_gone : without_key v key ≡ Err Missing
  none_gone =
      let t = rows_in bytes entries e count v is opened in
      ap (λ w. without_key w key) t.1 ∙ ap (λ b. if b then ok_of (table e (maps.remove t.0 key)) else Err Missing) (has_none t.0 (gap t.0 t.4))

  new_value : (m : maps.FinMap text_cmp Datum) (so : GapIn (maps.entries m) key entries rest) (d : Datum) → with_row (table e m) key d ≡ (if nat_lt (maps.len m) most_elements then ok_of (table e (maps.insert m key d)) else Err Full)
  new_value m so d = ap (λ b. if b || nat_lt (maps.len m) most_elements then ok_of (table e (maps.insert m key d)) else Err Full) (has_none m so)

  pub none_fits : (d : Datum) → most_elements ≤ count → with_row v key d ≡ Err Full
  none_fits d full =
      let t = rows_in bytes entries e count v is opened in
      ap (λ w. with_row w key d) t.1 ∙ new_value t.0 (gap t.0 t.4) d ∙ ap (λ b. if b then ok_of (table e (maps.insert t.0 key d)) else Err Full) (not_less (maps.len t.0) most_elements (omega (arith, full, t.3)))

  one_fits : (m : maps.FinMap text_cmp Datum) (so : GapIn (maps.entries m) key entries rest) (d : Datum) → count ≡ maps.len m → count < most_elements → with_row (table e m) key d ≡ Ok (table e (maps.insert m key d))
  one_fits m so d many room = new_value m so d ∙ ap (λ b. if b then ok_of (table e (maps.insert m key d)) else Err Full) (is_less (maps.len m) most_elements (omega (arith, room, many)))

  pub new_row : (front out : List ℕ) (d : Datum) → IsRow e (key, d) → count < most_elements → ((f : List ℕ) → entries ≡ f ++ rest → front ≡ f)
      → out ≡ ((header (kind.Table e) (count + 1) ++ front) ++ spelled_row (key, d)) ++ rest → SpellNew (kind.Table e) out (with_row v key d)
  new_row front out d row room before made =
      let t = rows_in bytes entries e count v is opened in
      let m = t.0 in
      let so = gap m t.4 in
      let es : List (List ℕ × Datum) = so.before ++ (key, d) ∷ so.later in
      let now : maps.entries (maps.insert m key d) ≡ es = maps.entries-insert nat_list_cmp_total m key d ∙ ap (λ (l : List (List ℕ × Datum)). put text_cmp key d l) so.parts ∙ put_past key d so.before so.later so.lower ∙ ap (λ (l : List (List ℕ × Datum)). so.before ++ l) (put_front key d so.later so.higher) in
      let was : length (maps.entries m) ≡ count = sym (maps.len-entries m) ∙ sym t.3 in
      let many : length es ≡ count + 1 = omega (arith, length-append so.before ((key, d) ∷ so.later), length-append so.before so.later, ap length so.parts, was) in
      let front_is : front ≡ flat_map spelled_row so.before = before (flat_map spelled_row so.before) so.front in (
        table e (maps.insert m key d),
        ap (λ w. with_row w key d) t.1 ∙ one_fits m so d t.3 room,
        table_spells out e (count + 1) (maps.insert m key d) es (rows_stored e m key d t.2 row (made_room (maps.contains_key m key) (maps.len m) (inr (omega (arith, room, t.3))))) now many
            (made ∙ put_together (header (kind.Table e) (count + 1)) front rest so.before so.later (key, d) front_is so.back),
      )
    where
      put_together : (head front next : List ℕ) (before later : List (List ℕ × Datum)) (row : List ℕ × Datum) → front ≡ flat_map spelled_row before → next ≡ flat_map spelled_row later
          → ((head ++ front) ++ spelled_row row) ++ next ≡ head ++ flat_map spelled_row (before ++ row ∷ later)
      put_together head front next before later row f n =
          append_assoc (head ++ front) (spelled_row row) next ∙ append_assoc head front (spelled_row row ++ next)
          ∙ (λ i. head ++ (f i ++ (spelled_row row ++ n i))) ∙ ap (λ (r : List ℕ). head ++ r) (sym (flat_map-append spelled_row before (row ∷ later)))

  pub new_ok : (d : Datum) → count < most_elements → IsOk (with_row v key d)
  new_ok d room =
      let t = rows_in bytes entries e count v is opened in
      subst IsOk (sym (ap (λ w. with_row w key d) t.1 ∙ one_fits t.0 (gap t.0 t.4) d t.3 room)) refl

-- whether a table has a key
pub has_is : (bytes entries : List ℕ) (e : Elem) (count : ℕ) (key rest value : List ℕ) (v : Contents) → Spells bytes (kind.Table e) v → IsOpened bytes count entries v → (b : Bool)
    → (IsTrue b → (m : maps.FinMap text_cmp Datum) → SpellRows Second entries e count m → StandsIn (maps.entries m) key entries rest value)
    → (IsFalse b → (m : maps.FinMap text_cmp Datum) → SpellRows Second entries e count m → GapIn (maps.entries m) key entries rest) → b ≡ has_key v key
has_is bytes entries e count key rest value v is opened true stands gap = sym (is_there bytes entries e count key rest value (stands refl) v is opened)
has_is bytes entries e count key rest value v is opened false stands gap = sym (is_missing bytes entries e count key rest (gap refl) v is opened)
