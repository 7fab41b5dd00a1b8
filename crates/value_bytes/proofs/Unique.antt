-- No two values share a spelling.
use Rattle.std.proofs.Common.{◌≡◌, ℕ, zero, suc, ◌+◌, ◌*◌, ◌<◌, ◌≤◌, List, [], ◌∷◌, ◌++◌, length, take, drop, Some, get_or, refl, sym, ap, ◌∙◌, subst, arith}
use Rattle.std.specs.Prelude.{All, slice_get}
use Rattle.std.specs.List.{flat_map}
use Rattle.std.specs.Int.{w16, w32, to_be_bytes}
use Rattle.std.specs.FinMap as map
use Rattle.std.proofs.lemmas.List.{append-nil}
use Rattle.value_core.specs.declared.format.Format.{Format}
use Rattle.value_core.specs.declared.format.Format.TheVariants.{First, Second}
use Rattle.value_bytes.specs.Format.{number_of}
use Rattle.value_core.specs.Limits.{most_elements}
use Rattle.value_core.specs.declared.datum.Datum.{Datum}
use Rattle.value_core.specs.declared.datum.Datum.TheVariants as datum
use Rattle.value_core.specs.declared.kind.Elem.{Elem}
use Rattle.value_core.specs.declared.kind.Elem.TheVariants as elem
use Rattle.value_core.specs.declared.kind.Kind.{Kind}
use Rattle.value_core.specs.declared.kind.Kind.TheVariants as kind
use Rattle.value_core.specs.Kinds.{sort_of}
use Rattle.value_core.specs.Datum.{IsElementIn}
use Rattle.value_core.specs.Contents.{Contents, array, queue, table, IsContentsIn, IsRowIn, AreElementsIn}
use Rattle.value_bytes.specs.Spelling.{spelled_datum_in, spelled_row_in, code_of, header_in, spelling_in, SpellsIn, Spells, SpellRows}
use Rattle.value_core.specs.TextOrder.{text_cmp}
use Rattle.value_bytes.specs.Laws.{SpellingUnique, IntegersStandInPlace}
use Rattle.std.proofs.Math.Seq.{drop-append-add}
use Rattle.value_core.proofs.TableRows.{head, tail}
use Rattle.value_bytes.proofs.Apart.{other_sort, count_apart, datum_apart, row_apart, same_elements}

-- a kind's byte is made of its shape and of its sort
pub shape_of : Kind → ℕ
shape_of (kind.Array n e) = 0
shape_of (kind.Queue e) = 1
shape_of (kind.Table e) = 2

bit_of : Elem → ℕ
bit_of elem.Integer = 0
bit_of elem.Text = 1

small_bit : (e : Elem) → bit_of e < 2
unfolding bit_of
small_bit elem.Integer = omega arith
small_bit elem.Text = omega arith

code_is : (k : Kind) → code_of k ≡ 2 * shape_of k + bit_of (sort_of k) + 1
unfolding shape_of bit_of
code_is (kind.Array n elem.Integer) = omega arith
code_is (kind.Array n elem.Text) = omega arith
code_is (kind.Queue elem.Integer) = omega arith
code_is (kind.Queue elem.Text) = omega arith
code_is (kind.Table elem.Integer) = omega arith
code_is (kind.Table elem.Text) = omega arith

same_bit : (e f : Elem) → bit_of e ≡ bit_of f → e ≡ f
unfolding bit_of
same_bit elem.Integer elem.Integer is = refl
same_bit elem.Integer elem.Text is = absurd (omega (arith, is))
same_bit elem.Text elem.Integer is = absurd (omega (arith, is))
same_bit elem.Text elem.Text is = refl

pub same_code : (k l : Kind) → code_of k ≡ code_of l → (shape_of k ≡ shape_of l) × (sort_of k ≡ sort_of l)
same_code k l is =
    let sum : 2 * shape_of k + bit_of (sort_of k) + 1 ≡ 2 * shape_of l + bit_of (sort_of l) + 1 = sym (code_is k) ∙ is ∙ code_is l in
    (omega (arith, sum, small_bit (sort_of k), small_bit (sort_of l)), same_bit (sort_of k) (sort_of l) (omega (arith, sum, small_bit (sort_of k), small_bit (sort_of l))))

module _ (f : Format) where
  -- a header gives the code and the count, and what is behind it
  pub header_apart : (k l : Kind) (m n : ℕ) (r s : List ℕ) → m ≤ most_elements → n ≤ most_elements → header_in f k m ++ r ≡ header_in f l n ++ s → (code_of k ≡ code_of l) × (m ≡ n) × (r ≡ s)
  header_apart k l m n r s lm ln is =
      let code : code_of k ≡ code_of l = ap (λ (z : List ℕ). get_or z 1 0) is in
      let behind : to_be_bytes w16 m ++ r ≡ to_be_bytes w16 n ++ s = ap (λ (z : List ℕ). drop 2 z) is in
      let both = count_apart m n r s (omega arith) (omega arith) behind in
      (code, both.0, both.1)

  apart_shapes : (k l : Kind) (m n : ℕ) (r s : List ℕ) → m ≤ most_elements → n ≤ most_elements → header_in f k m ++ r ≡ header_in f l n ++ s → (shape_of k ≡ shape_of l → ⊥) → ⊥
  apart_shapes k l m n r s lm ln is differ = differ (same_code k l (header_apart k l m n r s lm ln is).0).0

  same_lists : (k l : Kind) (xs ys : List Datum) → AreElementsIn f (sort_of k) xs → AreElementsIn f (sort_of l) ys → header_in f k (length xs) ++ flat_map (spelled_datum_in f) xs ≡ header_in f l (length ys) ++ flat_map (spelled_datum_in f) ys → (sort_of k ≡ sort_of l) × (xs ≡ ys)
  same_lists k l xs ys a b is =
      let parts = header_apart k l (length xs) (length ys) (flat_map (spelled_datum_in f) xs) (flat_map (spelled_datum_in f) ys) a.few b.few is in
      let sorts : sort_of k ≡ sort_of l = (same_code k l parts.0).1 in
      let each : All (IsElementIn f (sort_of l)) xs = subst (λ e. All (IsElementIn f e) xs) sorts a.each in
      (sorts, (same_elements (spelled_datum_in f) (IsElementIn f (sort_of l)) (datum_apart f (sort_of l)) ys xs [] b.each each (sym parts.1) (parts.2 ∙ sym (append-nil (flat_map (spelled_datum_in f) ys)))).0)

  -- values with one spelling
  pub one_value : (v w : Contents) → IsContentsIn f v → IsContentsIn f w → spelling_in f v ≡ spelling_in f w → v ≡ w
  unfolding shape_of
  one_value (array e xs) (array o ys) a b is =
      let both = same_lists (kind.Array (length xs) e) (kind.Array (length ys) o) xs ys a b is in λ i. array (both.0 i) (both.1 i)
  one_value (array e xs) (queue o ys) a b is = absurd (apart_shapes (kind.Array (length xs) e) (kind.Queue o) (length xs) (length ys) _ _ a.few b.few is (λ h. omega (arith, h)))
  one_value (array e xs) (table o m) a b is = absurd (apart_shapes (kind.Array (length xs) e) (kind.Table o) (length xs) (map.len m) _ _ a.few b.few is (λ h. omega (arith, h)))
  one_value (queue e xs) (array o ys) a b is = absurd (apart_shapes (kind.Queue e) (kind.Array (length ys) o) (length xs) (length ys) _ _ a.few b.few is (λ h. omega (arith, h)))
  one_value (queue e xs) (queue o ys) a b is =
      let both = same_lists (kind.Queue e) (kind.Queue o) xs ys a b is in λ i. queue (both.0 i) (both.1 i)
  one_value (queue e xs) (table o m) a b is = absurd (apart_shapes (kind.Queue e) (kind.Table o) (length xs) (map.len m) _ _ a.few b.few is (λ h. omega (arith, h)))
  one_value (table e m) (array o ys) a b is = absurd (apart_shapes (kind.Table e) (kind.Array (length ys) o) (map.len m) (length ys) _ _ a.few b.few is (λ h. omega (arith, h)))
  one_value (table e m) (queue o ys) a b is = absurd (apart_shapes (kind.Table e) (kind.Queue o) (map.len m) (length ys) _ _ a.few b.few is (λ h. omega (arith, h)))
  one_value (table e m) (table o n) a b is =
      let parts = header_apart (kind.Table e) (kind.Table o) (map.len m) (map.len n) (flat_map (spelled_row_in f) (map.entries m)) (flat_map (spelled_row_in f) (map.entries n)) a.few b.few is in
      let sorts : e ≡ o = (same_code (kind.Table e) (kind.Table o) parts.0).1 in
      let each : All (IsRowIn f o) (map.entries m) = subst (λ e. All (IsRowIn f e) (map.entries m)) sorts a.each in
      let lens : length (map.entries n) ≡ length (map.entries m) = sym (map.len-entries n) ∙ sym parts.1 ∙ map.len-entries m in
      let same : map.entries m ≡ map.entries n = (same_elements (spelled_row_in f) (IsRowIn f o) (row_apart f o) (map.entries n) (map.entries m) [] b.each each lens (parts.2 ∙ sym (append-nil (flat_map (spelled_row_in f) (map.entries n))))).0 in
      let maps : m ≡ n = map.same_entries_map m n same in
      λ i. table (sorts i) (maps i)

-- the first byte tells the format
pub told : (f : Format) (v : Contents) → slice_get (spelling_in f v) 0 ≡ Some (number_of f)
told f (array e xs) = refl
told f (queue e xs) = refl
told f (table e m) = refl

same_number : (f g : Format) → number_of f ≡ number_of g → f ≡ g
same_number First First is = refl
same_number First Second is = absurd (omega (arith, is))
same_number Second First is = absurd (omega (arith, is))
same_number Second Second is = refl

pub same_format : (f g : Format) (v w : Contents) → spelling_in f v ≡ spelling_in g w → f ≡ g
same_format f g v w is = let numbers : Some (number_of f) ≡ Some (number_of g) = sym (told f v) ∙ ap (λ (z : List ℕ). slice_get z 0) is ∙ told g w in same_number f g (cc)

one_spelled : (f : Format) (bytes : List ℕ) (k l : Kind) (first second : Contents) → SpellsIn f bytes k first → SpellsIn f bytes l second → first ≡ second
one_spelled f bytes k l first second a b = one_value f first second a.contents b.contents (sym a.spelled ∙ b.spelled)

pub unique_in : SpellingUnique
unique_in f g bytes k l first second a b =
    let format : f ≡ g = same_format f g first second (sym a.spelled ∙ b.spelled) in
    (format, one_spelled g bytes k l first second (subst (λ h. SpellsIn h bytes k first) format a) b)

-- the same of the bytes that are written
pub unique : (bytes : List ℕ) (k l : Kind) (first second : Contents) → Spells bytes k first → Spells bytes l second → first ≡ second
unique bytes k l first second a b = one_spelled Second bytes k l first second a b

-- behind four bytes
past_four : (four rest : List ℕ) (k : ℕ) → length four ≡ 4 → drop (4 + k) (four ++ rest) ≡ drop k rest
past_four four rest k is = ap (λ n. drop (n + k) (four ++ rest)) (sym is) ∙ drop-append-add four rest k

in_place : (f : Format) (xs : List Datum) (i n : ℕ) → All (IsElementIn f elem.Integer) xs → slice_get xs i ≡ Some (datum.Integer n) → take 4 (drop (4 * i) (flat_map (spelled_datum_in f) xs)) ≡ to_be_bytes w32 n
in_place f [] i n each is = absurd (cc)
in_place f (datum.Text t ∷ xs) i n each is = absurd (other_sort elem.Integer refl (head (IsElementIn f elem.Integer) (datum.Text t) xs each).sort)
in_place f (datum.Integer m ∷ xs) zero n each is = let same : m ≡ n = cc in ap (to_be_bytes w32) same
in_place f (datum.Integer m ∷ xs) (suc i) n each is =
    let far : 4 * suc i ≡ 4 + 4 * i = omega arith in
    ap (λ k. take 4 (drop k (flat_map (spelled_datum_in f) (datum.Integer m ∷ xs)))) far
    ∙ ap (take 4) (past_four (to_be_bytes w32 m) (flat_map (spelled_datum_in f) xs) (4 * i) refl)
    ∙ in_place f xs i n (tail (IsElementIn f elem.Integer) (datum.Integer m) xs each) is

pub stand_in_place : IntegersStandInPlace
stand_in_place f xs i n is there =
    ap (take 4) (past_four (header_in f (kind.Array (length xs) elem.Integer) (length xs)) (flat_map (spelled_datum_in f) xs) (4 * i) refl) ∙ in_place f xs i n is.each there

table_apart : (n : ℕ) (f e : Elem) → kind.Array n f ≡ kind.Table e → ⊥
table_apart n f e is = cc

queue_apart : (f e : Elem) → kind.Queue f ≡ kind.Table e → ⊥
queue_apart f e is = cc

module _ (f : Format) where
  -- behind the header of a table stand its rows
  pub rows_behind : (e : Elem) (count : ℕ) (bytes : List ℕ) (value : Contents) → count ≤ most_elements → SpellsIn f (header_in f (kind.Table e) count ++ bytes) (kind.Table e) value → (m : map.FinMap text_cmp Datum) × SpellRows f bytes e count m
  rows_behind e count bytes (array o xs) few is = absurd (table_apart (length xs) o e is.kind)
  rows_behind e count bytes (queue o xs) few is = absurd (queue_apart o e is.kind)
  rows_behind e count bytes (table o m) few is =
      let sort : o ≡ e = ap sort_of is.kind in
      let parts = header_apart f (kind.Table e) (kind.Table o) count (map.len m) bytes (flat_map (spelled_row_in f) (map.entries m)) few is.contents.few is.spelled in
      (m, record { each = subst (λ s. All (IsRowIn f s) (map.entries m)) sort is.contents.each; many = sym parts.1; spelled = parts.2 })
