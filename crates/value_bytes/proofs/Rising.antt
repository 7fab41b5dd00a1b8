-- Rows whose keys rise.
use Rattle.std.proofs.Common.{◌≡◌, ◌≢◌, ℕ, ◌<◌, Bool, true, false, T, List, [], ◌∷◌, ◌++◌, Option, Some, None, length, refl, sym, ap, ◌∙◌, subst, arith}
use Rattle.std.specs.Prelude.{All, ◌&&◌}
use Rattle.std.specs.List.{flat_map}
use Rattle.std.specs.declared.cmp.Ordering.{Ordering}
use Rattle.std.specs.declared.cmp.Ordering.TheVariants.{Less, Equal, Greater}
use Rattle.std.specs.Ordering.{is_lt, ordering_reverse}
use Rattle.std.specs.Cmp.Lexicographic.{nat_list_cmp_total}
use Rattle.std.specs.FinMap as map
use Rattle.std.specs.FinMap.{put, is_sorted}
use Rattle.std.specs.FinMap.Entries.{below_all, by_order}
use Rattle.std.proofs.lemmas.List.Elements.{All-cons, All-nil}
use Rattle.value_core.specs.declared.format.Format.{Format}
use Rattle.value_core.specs.declared.datum.Datum.{Datum}
use Rattle.value_core.specs.declared.kind.Elem.{Elem}
use Rattle.value_core.specs.TextOrder.{text_cmp}
use Rattle.value_core.specs.Contents.{IsRowIn}
use Rattle.value_bytes.specs.Spelling.{spelled_row_in, SpellRows, IsAfter}
use Rattle.value_bytes.proofs.Apart.{row_apart, same_elements, next_element}
use Rattle.value_core.proofs.TableRows.{head, tail}

Row : Type 0
Row = List ℕ × Datum

-- the key of the last row, if there is one
abbrev pub EndsWith : List (List ℕ × Datum) → Option (List ℕ) → Type 0
EndsWith rows None = rows ≡ []
EndsWith rows (Some key) = (before : List (List ℕ × Datum)) × (d : Datum) × (rows ≡ before ++ (key, d) ∷ [])

first_of : (a b : Bool) → T (a && b) → T a
first_of true b p = tt
first_of false b p = absurd p

second_of : (a b : Bool) → T (a && b) → T b
second_of true b p = p
second_of false b p = absurd p

less_of : (o : Ordering) → T (is_lt o) → o ≡ Less
less_of Less p = refl
less_of Equal p = absurd p
less_of Greater p = absurd p

-- a key below all of these is below each of them
below_last : (x : List ℕ) (rows : List (List ℕ × Datum)) (r : List ℕ × Datum) (later : List (List ℕ × Datum)) → T (below_all text_cmp x (rows ++ r ∷ later)) → text_cmp x r.0 ≡ Less
below_last x [] r later h = less_of _ (first_of _ _ h)
below_last x (q ∷ rows) r later h = below_last x rows r later (second_of _ _ h)

-- what comes after the last key comes after all
pub after_all : (rows : List (List ℕ × Datum)) (last : List ℕ) (d : Datum) (key : List ℕ) → T (is_sorted text_cmp (rows ++ (last, d) ∷ [])) → text_cmp last key ≡ Less → All (λ r. text_cmp r.0 key ≡ Less) (rows ++ (last, d) ∷ [])
after_all [] last d key h less = All-cons (λ r. text_cmp r.0 key ≡ Less) (last, d) [] less (All-nil (λ r. text_cmp r.0 key ≡ Less))
after_all (q ∷ rows) last d key h less =
    All-cons (λ r. text_cmp r.0 key ≡ Less) q (rows ++ (last, d) ∷ []) (nat_list_cmp_total.trans q.0 last key (below_last q.0 rows (last, d) [] (first_of _ _ h)) less) (after_all rows last d key (second_of _ _ h) less)

-- neighbours rise
pub rising : (rows : List (List ℕ × Datum)) (last next : List ℕ × Datum) (later : List (List ℕ × Datum)) → T (is_sorted text_cmp ((rows ++ last ∷ []) ++ next ∷ later)) → text_cmp last.0 next.0 ≡ Less
rising [] last next later h = less_of _ (first_of _ _ (first_of _ _ h))
rising (q ∷ rows) last next later h = rising rows last next later (second_of _ _ h)

put_last : (rows : List (List ℕ × Datum)) (key : List ℕ) (d : Datum) → All (λ r. text_cmp r.0 key ≡ Less) rows → put text_cmp key d rows ≡ rows ++ (key, d) ∷ []
put_last [] key d each = refl
put_last (q ∷ rows) key d each =
    let under : text_cmp key q.0 ≡ Greater = nat_list_cmp_total.antisymm key q.0 ∙ ap ordering_reverse (head (λ r. text_cmp r.0 key ≡ Less) q rows each) in
    ap (λ o. by_order o ((key, d) ∷ q ∷ rows) ((q.0, d) ∷ rows) (q ∷ put text_cmp key d rows)) under
    ∙ ap (λ (r : List (List ℕ × Datum)). q ∷ r) (put_last rows key d (tail (λ r. text_cmp r.0 key ≡ Less) q rows each))

all_before : (rows : List (List ℕ × Datum)) (last : Option (List ℕ)) (key : List ℕ) → T (is_sorted text_cmp rows) → EndsWith rows last → IsAfter last key → All (λ r. text_cmp r.0 key ≡ Less) rows
all_before rows None key sorted ends after = subst (All (λ r. text_cmp r.0 key ≡ Less)) (sym ends) (All-nil (λ r. text_cmp r.0 key ≡ Less))
all_before rows (Some last) key sorted ends after =
    subst (All (λ r. text_cmp r.0 key ≡ Less)) (sym ends.2) (after_all ends.0 last ends.1 key (subst (λ r. T (is_sorted text_cmp r)) ends.2 sorted) after)

-- a key that comes after the last one is put behind all
pub put_behind : (m : map.FinMap text_cmp Datum) (last : Option (List ℕ)) (key : List ℕ) (d : Datum) → EndsWith (map.entries m) last → IsAfter last key → map.entries (map.insert m key d) ≡ map.entries m ++ (key, d) ∷ []
put_behind m last key d ends after =
    map.entries-insert nat_list_cmp_total m key d ∙ put_last (map.entries m) key d (all_before (map.entries m) last key (map.entries_sorted m) ends after)

module _ (f : Format) where
  -- where no row stands next, there are not so many
  pub no_next_row : (bytes rest : List ℕ) (e : Elem) (count : ℕ) (rows : List (List ℕ × Datum)) → All (IsRowIn f e) rows → length rows < count → bytes ≡ flat_map (spelled_row_in f) rows ++ rest
      → ((row : List ℕ × Datum) (r : List ℕ) → IsRowIn f e row → rest ≢ spelled_row_in f row ++ r) → (m : map.FinMap text_cmp Datum) → SpellRows f bytes e count m → ⊥
  no_next_row bytes rest e count rows each less parts none m is =
      let next = next_element (spelled_row_in f) (IsRowIn f e) (row_apart f e) rows (map.entries m) rest each is.each (omega (arith, less, is.many, map.len-entries m)) (sym is.spelled ∙ parts) in
      none next.0 (flat_map (spelled_row_in f) next.1) next.2 next.4

  fall : (rows : List (List ℕ × Datum)) (last : Option (List ℕ)) (next : List ℕ × Datum) (later : List (List ℕ × Datum)) → EndsWith rows last → T (is_sorted text_cmp (rows ++ next ∷ later)) → IsAfter last next.0
  fall rows None next later ends sorted = tt
  fall rows (Some last) next later ends sorted = rising ends.0 (last, ends.1) next later (subst (λ r. T (is_sorted text_cmp (r ++ next ∷ later))) ends.2 sorted)

  -- where the next key does not come after the last, these are no rows of a table
  pub no_rise : (bytes rest behind : List ℕ) (e : Elem) (count : ℕ) (rows : List (List ℕ × Datum)) (last : Option (List ℕ)) (key : List ℕ) (d : Datum) → All (IsRowIn f e) rows → length rows < count → bytes ≡ flat_map (spelled_row_in f) rows ++ rest
      → EndsWith rows last → IsRowIn f e (key, d) → rest ≡ spelled_row_in f (key, d) ++ behind → (IsAfter last key → ⊥) → (m : map.FinMap text_cmp Datum) → SpellRows f bytes e count m → ⊥
  no_rise bytes rest behind e count rows last key d each less parts ends row front no_after m is =
      let next = next_element (spelled_row_in f) (IsRowIn f e) (row_apart f e) rows (map.entries m) rest each is.each (omega (arith, less, is.many, map.len-entries m)) (sym is.spelled ∙ parts) in
      let same = row_apart f e next.0 (key, d) (flat_map (spelled_row_in f) next.1) behind next.2 row (sym next.4 ∙ front) in
      let sorted : T (is_sorted text_cmp (rows ++ next.0 ∷ next.1)) = subst (λ r. T (is_sorted text_cmp r)) next.3 (map.entries_sorted m) in
      no_after (subst (λ (r : List ℕ × Datum). IsAfter last r.0) same.0 (fall rows last next.0 next.1 ends sorted))

  -- where bytes are left behind them, there are not so many
  pub no_more_rows : (bytes rest : List ℕ) (e : Elem) (count : ℕ) (rows : List (List ℕ × Datum)) → All (IsRowIn f e) rows → length rows ≡ count → bytes ≡ flat_map (spelled_row_in f) rows ++ rest
      → (rest ≡ [] → ⊥) → (m : map.FinMap text_cmp Datum) → SpellRows f bytes e count m → ⊥
  no_more_rows bytes rest e count rows each same parts some m is =
      some (same_elements (spelled_row_in f) (IsRowIn f e) (row_apart f e) rows (map.entries m) rest each is.each (same ∙ sym is.many ∙ map.len-entries m) (sym is.spelled ∙ parts)).1
