-- A search for a key from the first row on, and what its place tells.
use Rattle.std.proofs.Common.{◌≡◌, ℕ, ◌+◌, ◌<◌, Bool, true, false, T, List, [], ◌∷◌, ◌++◌, length, ◌⊎◌, inl, inr, refl, sym, ap, ◌∙◌, subst, append_assoc, arith, length-append}
use Rattle.std.specs.Prelude.{All, ◌&&◌}
use Rattle.std.specs.List.{flat_map}
use Rattle.std.specs.declared.cmp.Ordering.{Ordering}
use Rattle.std.specs.declared.cmp.Ordering.TheVariants.{Less, Equal, Greater}
use Rattle.std.specs.Ordering.{is_lt, ordering_reverse}
use Rattle.std.specs.Cmp.Lexicographic.{nat_list_cmp_total}
use Rattle.std.specs.FinMap as map
use Rattle.std.specs.FinMap.{is_sorted}
use Rattle.std.specs.FinMap.Entries.{below_all}
use Rattle.std.proofs.lemmas.List.Elements.{All-cons, All-nil}
use Rattle.value_core.specs.Plain.{IsText}
use Rattle.value_core.specs.TextOrder.{text_cmp}
use Rattle.value_core.specs.declared.format.Format.TheVariants.{Second}
use Rattle.value_core.specs.declared.datum.Datum.{Datum}
use Rattle.value_core.specs.declared.kind.Elem.{Elem}
use Rattle.value_core.specs.Datum.{IsElement}
use Rattle.value_core.specs.Contents.{IsRow}
use Rattle.value_bytes.specs.Spelling.{spelled_text, spelled_datum, spelled_row, SpellRows}
use Rattle.value_core.proofs.TableRows.{head, tail}
use Rattle.value_bytes.proofs.Decoding.{All-push, length-push, read_more}
use Rattle.value_core.proofs.Tables.{exact_texts}
use Rattle.apply_core.specs.Cuts.{IsLower, IsHigher, StandsIn, GapIn}

-- so many rows have lower keys, and stand before the rest
pub record Cut (es : List (List ℕ × Datum)) (key bytes rest : List ℕ) (place : ℕ) : Type 0 where
  pub before : List (List ℕ × Datum)
  pub after : List (List ℕ × Datum)
  pub parts : es ≡ before ++ after
  pub many : length before ≡ place
  pub lower : All (IsLower key) before
  pub front : bytes ≡ flat_map spelled_row before ++ rest
  pub back : rest ≡ flat_map spelled_row after

abbrev pub IsCut : Elem → ℕ → List ℕ → List ℕ → List ℕ → ℕ → Type 0
IsCut e count key bytes rest place = (m : map.FinMap text_cmp Datum) → SpellRows Second bytes e count m → Cut (map.entries m) key bytes rest place

pub uncut : (e : Elem) (count : ℕ) (key bytes : List ℕ) → IsCut e count key bytes bytes 0
uncut e count key bytes = λ m is. record { before = []; after = map.entries m; parts = refl; many = refl; lower = All-nil (IsLower key); front = refl; back = is.spelled }

each_behind : {X : Type 0} (P : X → Type 0) (xs ys : List X) → All P (xs ++ ys) → All P ys
each_behind P [] ys each = each
each_behind P (x ∷ xs) ys each = each_behind P xs ys (tail P x (xs ++ ys) each)

-- the next row, and what the walk sees of it
pub record Next (es : List (List ℕ × Datum)) (e : Elem) (key bytes rest : List ℕ) (place : ℕ) : Type 0 where
  pub before : List (List ℕ × Datum)
  pub row : List ℕ × Datum
  pub later : List (List ℕ × Datum)
  pub parts : es ≡ before ++ row ∷ later
  pub many : length before ≡ place
  pub lower : All (IsLower key) before
  pub front : bytes ≡ flat_map spelled_row before ++ rest
  pub is : IsRow e row
  pub text : rest ≡ spelled_text row.0 ++ (spelled_datum row.1 ++ flat_map spelled_row later)
  pub whole : rest ≡ spelled_row row ++ flat_map spelled_row later

next_in : (es : List (List ℕ × Datum)) (e : Elem) (key bytes rest : List ℕ) (place : ℕ) (before after : List (List ℕ × Datum)) → es ≡ before ++ after → length before ≡ place → All (IsLower key) before
    → bytes ≡ flat_map spelled_row before ++ rest → rest ≡ flat_map spelled_row after → All (IsRow e) es → place < length es → Next es e key bytes rest place
next_in es e key bytes rest place before [] parts many lower front back each less = absurd (omega (arith, less, many, ap length parts, length-append before []))
next_in es e key bytes rest place before (row ∷ later) parts many lower front back each less =
    record {
      before = before;
      row = row;
      later = later;
      parts = parts;
      many = many;
      lower = lower;
      front = front;
      is = head (IsRow e) row later (each_behind (IsRow e) before (row ∷ later) (subst (All (IsRow e)) parts each));
      text = back ∙ append_assoc (spelled_text row.0) (spelled_datum row.1) (flat_map spelled_row later);
      whole = back;
    }

pub next_row : (e : Elem) (count : ℕ) (key bytes rest : List ℕ) (place : ℕ) → IsCut e count key bytes rest place → place < count → (m : map.FinMap text_cmp Datum) → SpellRows Second bytes e count m → Next (map.entries m) e key bytes rest place
next_row e count key bytes rest place cut less m is =
    let so = cut m is in
    next_in (map.entries m) e key bytes rest place so.before so.after so.parts so.many so.lower so.front so.back is.each (omega (arith, less, is.many, map.len-entries m))

-- no text, or no element, where a row stands
pub no_key : (e : Elem) (count : ℕ) (key bytes rest : List ℕ) (place : ℕ) → IsCut e count key bytes rest place → place < count → ((t r : List ℕ) → IsText t → rest ≡ spelled_text t ++ r → ⊥) → (m : map.FinMap text_cmp Datum) → SpellRows Second bytes e count m → ⊥
no_key e count key bytes rest place cut less none m is =
    let next = next_row e count key bytes rest place cut less m is in
    none next.row.0 (spelled_datum next.row.1 ++ flat_map spelled_row next.later) next.is.key next.text

abbrev pub IsSplitText : List ℕ → List ℕ → List ℕ → Type 0
IsSplitText rest front value = (t r : List ℕ) → IsText t → rest ≡ spelled_text t ++ r → (front ≡ t) × (value ≡ r)

pub no_value : (e : Elem) (count : ℕ) (key bytes rest front value : List ℕ) (place : ℕ) → IsCut e count key bytes rest place → place < count → IsSplitText rest front value → ((d : Datum) (r : List ℕ) → IsElement e d → value ≡ spelled_datum d ++ r → ⊥)
    → (m : map.FinMap text_cmp Datum) → SpellRows Second bytes e count m → ⊥
no_value e count key bytes rest front value place cut less split none m is =
    let next = next_row e count key bytes rest place cut less m is in
    none next.row.1 (flat_map spelled_row next.later) next.is.element (split next.row.0 (spelled_datum next.row.1 ++ flat_map spelled_row next.later) next.is.key next.text).1

-- a row of a lower key is passed
pub row_passed : (e : Elem) (count : ℕ) (key bytes rest front value next : List ℕ) (place : ℕ) → IsCut e count key bytes rest place → place < count → IsSplitText rest front value → text_cmp front key ≡ Less
    → ((d : Datum) (r : List ℕ) → IsElement e d → value ≡ spelled_datum d ++ r → next ≡ r) → IsCut e count key bytes next (place + 1)
row_passed e count key bytes rest front value after place cut less split lower skipped = λ m is.
    let next = next_row e count key bytes rest place cut less m is in
    let seen = split next.row.0 (spelled_datum next.row.1 ++ flat_map spelled_row next.later) next.is.key next.text in
    let back : after ≡ flat_map spelled_row next.later = skipped next.row.1 (flat_map spelled_row next.later) next.is.element seen.1 in
    record {
      before = next.before ++ next.row ∷ [];
      after = next.later;
      parts = next.parts ∙ sym (append_assoc next.before (next.row ∷ []) next.later);
      many = length-push next.before next.row place next.many;
      lower = All-push (IsLower key) next.before next.row next.lower (subst (λ k. text_cmp k key ≡ Less) seen.0 lower);
      front = read_more spelled_row bytes rest after next.before next.row next.front (next.whole ∙ ap (λ (r : List ℕ). spelled_row next.row ++ r) (sym back));
      back = back;
    }

-- the row of the key itself
pub stands_here : (e : Elem) (count : ℕ) (key bytes rest front value : List ℕ) (place : ℕ) → IsCut e count key bytes rest place → place < count → IsSplitText rest front value → text_cmp front key ≡ Equal
    → (m : map.FinMap text_cmp Datum) → SpellRows Second bytes e count m → StandsIn (map.entries m) key bytes rest value
stands_here e count key bytes rest front value place cut less split same m is =
    let next = next_row e count key bytes rest place cut less m is in
    let seen = split next.row.0 (spelled_datum next.row.1 ++ flat_map spelled_row next.later) next.is.key next.text in
    let key_is : next.row.0 ≡ key = sym seen.0 ∙ exact_texts front key same in
    record {
      before = next.before;
      d = next.row.1;
      later = next.later;
      parts = next.parts ∙ ap (λ (k : List ℕ). next.before ++ (k, next.row.1) ∷ next.later) key_is;
      lower = next.lower;
      front = next.front;
      back = seen.1;
    }

first_of : (a b : Bool) → T (a && b) → T a
first_of true b p = tt
first_of false b p = absurd p

second_of : (a b : Bool) → T (a && b) → T b
second_of true b p = p
second_of false b p = absurd p

less_of : (o : Ordering) → T (is_lt o) → o ≡ Less
less_of Less p = refl
less_of Equal p = absurd p
less_of Greater p = absurd p

turned : (x y : List ℕ) (o : Ordering) → text_cmp x y ≡ o → text_cmp y x ≡ ordering_reverse o
turned x y o is = nat_list_cmp_total.antisymm y x ∙ ap ordering_reverse is

sorted_behind : (xs ys : List (List ℕ × Datum)) → T (is_sorted text_cmp (xs ++ ys)) → T (is_sorted text_cmp ys)
sorted_behind [] ys h = h
sorted_behind (x ∷ xs) ys h = sorted_behind xs ys (second_of _ _ h)

-- what comes after a key comes after a lower one
all_above : (key x : List ℕ) (rows : List (List ℕ × Datum)) → text_cmp key x ≡ Less → T (below_all text_cmp x rows) → All (IsHigher key) rows
all_above key x [] less h = All-nil (IsHigher key)
all_above key x (r ∷ rows) less h =
    All-cons (IsHigher key) r rows (turned key r.0 Less (nat_list_cmp_total.trans key x r.0 less (less_of _ (first_of _ _ h)))) (all_above key x rows less (second_of _ _ h))

above_first : (key : List ℕ) (row : List ℕ × Datum) (later : List (List ℕ × Datum)) → text_cmp row.0 key ≡ Greater → T (is_sorted text_cmp (row ∷ later)) → All (IsHigher key) (row ∷ later)
above_first key row later higher h = All-cons (IsHigher key) row later higher (all_above key row.0 later (turned row.0 key Greater higher) (first_of _ _ h))

-- a higher key stands at the place of the key
pub gap_here : (e : Elem) (count : ℕ) (key bytes rest front value : List ℕ) (place : ℕ) → IsCut e count key bytes rest place → place < count → IsSplitText rest front value → text_cmp front key ≡ Greater
    → (m : map.FinMap text_cmp Datum) → SpellRows Second bytes e count m → GapIn (map.entries m) key bytes rest
gap_here e count key bytes rest front value place cut less split higher m is =
    let next = next_row e count key bytes rest place cut less m is in
    let seen = split next.row.0 (spelled_datum next.row.1 ++ flat_map spelled_row next.later) next.is.key next.text in
    record {
      before = next.before;
      later = next.row ∷ next.later;
      parts = next.parts;
      lower = next.lower;
      higher = above_first key next.row next.later (subst (λ k. text_cmp k key ≡ Greater) seen.0 higher) (sorted_behind next.before (next.row ∷ next.later) (subst (λ r. T (is_sorted text_cmp r)) next.parts (map.entries_sorted m)));
      front = next.front;
      back = next.whole;
    }

none_after : (before after : List (List ℕ × Datum)) (es : List (List ℕ × Datum)) → es ≡ before ++ after → length before ≡ length es → after ≡ []
none_after before [] es parts many = refl
none_after before (r ∷ after) es parts many = absurd (omega (arith, many, ap length parts, length-append before (r ∷ after)))

-- the key would go behind all rows
pub gap_behind : (e : Elem) (count : ℕ) (key bytes rest : List ℕ) (place : ℕ) → IsCut e count key bytes rest place → place ≡ count → (m : map.FinMap text_cmp Datum) → SpellRows Second bytes e count m → GapIn (map.entries m) key bytes rest
gap_behind e count key bytes rest place cut all m is =
    let so = cut m is in
    let none : so.after ≡ [] = none_after so.before so.after (map.entries m) so.parts (so.many ∙ all ∙ sym is.many ∙ map.len-entries m) in
    record {
      before = so.before;
      later = so.after;
      parts = so.parts;
      lower = so.lower;
      higher = subst (All (IsHigher key)) (sym none) (All-nil (IsHigher key));
      front = so.front;
      back = so.back;
    }

-- a key stands among rows that rise, or has a gap there
pub record Stands (rows : List (List ℕ × Datum)) (key : List ℕ) : Type 0 where
  pub before : List (List ℕ × Datum)
  pub d : Datum
  pub later : List (List ℕ × Datum)
  pub parts : rows ≡ before ++ (key, d) ∷ later
  pub lower : All (IsLower key) before

pub record Gap (rows : List (List ℕ × Datum)) (key : List ℕ) : Type 0 where
  pub before : List (List ℕ × Datum)
  pub later : List (List ℕ × Datum)
  pub parts : rows ≡ before ++ later
  pub lower : All (IsLower key) before
  pub higher : All (IsHigher key) later

stands_later : (r : List ℕ × Datum) (rows : List (List ℕ × Datum)) (key : List ℕ) → text_cmp r.0 key ≡ Less → Stands rows key → Stands (r ∷ rows) key
stands_later r rows key less so = record {
  before = r ∷ so.before;
  d = so.d;
  later = so.later;
  parts = ap (λ (l : List (List ℕ × Datum)). r ∷ l) so.parts;
  lower = All-cons (IsLower key) r so.before less so.lower;
}

gap_later : (r : List ℕ × Datum) (rows : List (List ℕ × Datum)) (key : List ℕ) → text_cmp r.0 key ≡ Less → Gap rows key → Gap (r ∷ rows) key
gap_later r rows key less so = record {
  before = r ∷ so.before;
  later = so.later;
  parts = ap (λ (l : List (List ℕ × Datum)). r ∷ l) so.parts;
  lower = All-cons (IsLower key) r so.before less so.lower;
  higher = so.higher;
}

by_order_of : (r : List ℕ × Datum) (rows : List (List ℕ × Datum)) (key : List ℕ) → T (is_sorted text_cmp (r ∷ rows)) → (o : Ordering) → text_cmp r.0 key ≡ o → (Stands rows key ⊎ Gap rows key) → Stands (r ∷ rows) key ⊎ Gap (r ∷ rows) key
by_order_of r rows key sorted Less is (inl so) = inl (stands_later r rows key is so)
by_order_of r rows key sorted Less is (inr so) = inr (gap_later r rows key is so)
by_order_of r rows key sorted Equal is later = inl (record {
  before = [];
  d = r.1;
  later = rows;
  parts = ap (λ (k : List ℕ). (k, r.1) ∷ rows) (exact_texts r.0 key is);
  lower = All-nil (IsLower key);
})
by_order_of r rows key sorted Greater is later = inr (record {
  before = [];
  later = r ∷ rows;
  parts = refl;
  lower = All-nil (IsLower key);
  higher = above_first key r rows is sorted;
})

pub cut_rows : (rows : List (List ℕ × Datum)) (key : List ℕ) → T (is_sorted text_cmp rows) → Stands rows key ⊎ Gap rows key
cut_rows [] key sorted = inr (record { before = []; later = []; parts = refl; lower = All-nil (IsLower key); higher = All-nil (IsHigher key) })
cut_rows (r ∷ rows) key sorted = by_order_of r rows key sorted (text_cmp r.0 key) refl (cut_rows rows key (second_of _ _ sorted))
