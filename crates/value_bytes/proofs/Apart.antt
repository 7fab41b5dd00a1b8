-- What is spelled at the front of bytes is read off in one way alone.
use Rattle.std.proofs.Common.{◌≡◌, ℕ, ◌<◌, ◌^◌, List, [], ◌∷◌, ◌++◌, length, refl, sym, ap, ◌∙◌, append_assoc, arith}
use Rattle.std.specs.Prelude.{All}
use Rattle.std.specs.List.{flat_map}
use Rattle.std.specs.Int.{w16, w32, to_be_bytes, from_be_bytes}
use Rattle.std.proofs.lemmas.Nat.{from_be_bytes-to_be_bytes_2, from_be_bytes-to_be_bytes_4}
use Rattle.value_core.specs.declared.format.Format.{Format}
use Rattle.value_core.specs.declared.format.Format.TheVariants.{First, Second}
use Rattle.value_core.specs.declared.datum.Datum.{Datum}
use Rattle.value_core.specs.declared.datum.Datum.TheVariants as datum
use Rattle.value_core.specs.declared.kind.Elem.{Elem}
use Rattle.value_core.specs.declared.kind.Elem.TheVariants as elem
use Rattle.value_core.specs.Format.{IsTextIn}
use Rattle.value_bytes.specs.Format.{spelled_length}
use Rattle.value_core.specs.Datum.{IsElementIn}
use Rattle.value_core.specs.Contents.{IsRowIn}
use Rattle.value_bytes.specs.Spelling.{spelled_text_in, spelled_datum_in, spelled_row_in}
use Rattle.value_bytes.proofs.Widening.{most_fits}
use Rattle.value_core.proofs.TableRows.{head, tail}

-- fronts of one length
pub fronts : (xs ys r s : List ℕ) → length xs ≡ length ys → xs ++ r ≡ ys ++ s → (xs ≡ ys) × (r ≡ s)
fronts [] [] r s e is = (refl, is)
fronts [] (y ∷ ys) r s e is = absurd (omega (arith, e))
fronts (x ∷ xs) [] r s e is = absurd (omega (arith, e))
fronts (x ∷ xs) (y ∷ ys) r s e is =
    let first : x ≡ y = cc in
    let behind : xs ++ r ≡ ys ++ s = cc in
    let lens : length xs ≡ length ys = omega (arith, e) in
    let later = fronts xs ys r s lens behind in
    (λ i. first i ∷ later.0 i, later.1)

pub integer_apart : (m n : ℕ) (r s : List ℕ) → m < 2 ^ 32 → n < 2 ^ 32 → to_be_bytes w32 m ++ r ≡ to_be_bytes w32 n ++ s → (m ≡ n) × (r ≡ s)
integer_apart m n r s lm ln is =
    let both = fronts (to_be_bytes w32 m) (to_be_bytes w32 n) r s refl is in
    (sym (from_be_bytes-to_be_bytes_4 m lm) ∙ ap (from_be_bytes w32) both.0 ∙ from_be_bytes-to_be_bytes_4 n ln, both.1)

pub count_apart : (m n : ℕ) (r s : List ℕ) → m < 2 ^ 16 → n < 2 ^ 16 → to_be_bytes w16 m ++ r ≡ to_be_bytes w16 n ++ s → (m ≡ n) × (r ≡ s)
count_apart m n r s lm ln is =
    let both = fronts (to_be_bytes w16 m) (to_be_bytes w16 n) r s refl is in
    (sym (from_be_bytes-to_be_bytes_2 m lm) ∙ ap (from_be_bytes w16) both.0 ∙ from_be_bytes-to_be_bytes_2 n ln, both.1)

pub other_sort : (e : Elem) → elem.Integer ≡ e → elem.Text ≡ e → ⊥
other_sort e a b = cc

pub length_apart : (f : Format) (m n : ℕ) (r s : List ℕ) → m < 2 ^ 16 → n < 2 ^ 16 → spelled_length f m ++ r ≡ spelled_length f n ++ s → (m ≡ n) × (r ≡ s)
length_apart First m n r s lm ln is = (cc, cc)
length_apart Second m n r s lm ln is = count_apart m n r s lm ln is

-- the length of a text fits two bytes
pub few_fits : (f : Format) (t : List ℕ) → IsTextIn f t → length t < 2 ^ 16
few_fits f t is = omega (arith, is.few, most_fits f)

-- spelled one after another
module _ {X : Type 0} (spell : X → List ℕ) (P : X → Type 0) (apart : (x y : X) (r s : List ℕ) → P x → P y → spell x ++ r ≡ spell y ++ s → (x ≡ y) × (r ≡ s)) where
  -- as many elements leave nothing
  pub same_elements : (xs ys : List X) (rest : List ℕ) → All P xs → All P ys → length xs ≡ length ys → flat_map spell ys ≡ flat_map spell xs ++ rest → (ys ≡ xs) × (rest ≡ [])
  same_elements [] [] rest a b e is = (refl, sym is)
  same_elements [] (y ∷ ys) rest a b e is = absurd (omega (arith, e))
  same_elements (x ∷ xs) [] rest a b e is = absurd (omega (arith, e))
  same_elements (x ∷ xs) (y ∷ ys) rest a b e is =
      let both = apart y x (flat_map spell ys) (flat_map spell xs ++ rest) (head P y ys b) (head P x xs a) (is ∙ append_assoc (spell x) (flat_map spell xs) rest) in
      let lens : length xs ≡ length ys = omega (arith, e) in
      let later = same_elements xs ys rest (tail P x xs a) (tail P y ys b) lens both.1 in
      (λ i. both.0 i ∷ later.0 i, later.1)

  -- with more elements to come, one stands at the front of what is left
  pub next_element : (xs ys : List X) (rest : List ℕ) → All P xs → All P ys → length xs < length ys → flat_map spell ys ≡ flat_map spell xs ++ rest
      → (z : X) × (zs : List X) × P z × (ys ≡ xs ++ z ∷ zs) × (rest ≡ spell z ++ flat_map spell zs)
  next_element [] [] rest a b l is = absurd (omega (arith, l))
  next_element [] (y ∷ ys) rest a b l is = (y, ys, head P y ys b, refl, sym is)
  next_element (x ∷ xs) [] rest a b l is = absurd (omega (arith, l))
  next_element (x ∷ xs) (y ∷ ys) rest a b l is =
      let both = apart y x (flat_map spell ys) (flat_map spell xs ++ rest) (head P y ys b) (head P x xs a) (is ∙ append_assoc (spell x) (flat_map spell xs) rest) in
      let less : length xs < length ys = omega (arith, l) in
      let later = next_element xs ys rest (tail P x xs a) (tail P y ys b) less both.1 in
      (later.0, later.1, later.2, (λ i. both.0 i ∷ later.3 i), later.4)

module _ (f : Format) where
  pub text_apart : (t u r s : List ℕ) → IsTextIn f t → IsTextIn f u → spelled_text_in f t ++ r ≡ spelled_text_in f u ++ s → (t ≡ u) × (r ≡ s)
  text_apart t u r s is_t is_u is =
      let parts : spelled_length f (length t) ++ (t ++ r) ≡ spelled_length f (length u) ++ (u ++ s) = sym (append_assoc (spelled_length f (length t)) t r) ∙ is ∙ append_assoc (spelled_length f (length u)) u s in
      let lens = length_apart f (length t) (length u) (t ++ r) (u ++ s) (few_fits f t is_t) (few_fits f u is_u) parts in
      fronts t u r s lens.0 lens.1

  -- behind a length stands the text of that length
  pub text_behind : (n : ℕ) (behind t r : List ℕ) → n < 2 ^ 16 → IsTextIn f t → spelled_length f n ++ behind ≡ spelled_text_in f t ++ r → (n ≡ length t) × (behind ≡ t ++ r)
  text_behind n behind t r small is_t is = length_apart f n (length t) behind (t ++ r) small (few_fits f t is_t) (is ∙ append_assoc (spelled_length f (length t)) t r)

  pub datum_apart : (e : Elem) (x y : Datum) (r s : List ℕ) → IsElementIn f e x → IsElementIn f e y → spelled_datum_in f x ++ r ≡ spelled_datum_in f y ++ s → (x ≡ y) × (r ≡ s)
  datum_apart e (datum.Integer m) (datum.Integer n) r s a b is =
      let both = integer_apart m n r s a.datum b.datum is in (ap datum.Integer both.0, both.1)
  datum_apart e (datum.Integer m) (datum.Text u) r s a b is = absurd (other_sort e a.sort b.sort)
  datum_apart e (datum.Text t) (datum.Integer n) r s a b is = absurd (other_sort e b.sort a.sort)
  datum_apart e (datum.Text t) (datum.Text u) r s a b is =
      let both = text_apart t u r s a.datum b.datum is in (ap datum.Text both.0, both.1)

  pub row_apart : (e : Elem) (x y : List ℕ × Datum) (r s : List ℕ) → IsRowIn f e x → IsRowIn f e y → spelled_row_in f x ++ r ≡ spelled_row_in f y ++ s → (x ≡ y) × (r ≡ s)
  row_apart e x y r s a b is =
      let parts : spelled_text_in f x.0 ++ (spelled_datum_in f x.1 ++ r) ≡ spelled_text_in f y.0 ++ (spelled_datum_in f y.1 ++ s) = sym (append_assoc (spelled_text_in f x.0) (spelled_datum_in f x.1) r) ∙ is ∙ append_assoc (spelled_text_in f y.0) (spelled_datum_in f y.1) s in
      let keys = text_apart x.0 y.0 (spelled_datum_in f x.1 ++ r) (spelled_datum_in f y.1 ++ s) a.key b.key parts in
      let elements = datum_apart e x.1 y.1 r s a.element b.element keys.1 in
      (λ i. (keys.0 i, elements.0 i), elements.1)

  -- behind the key of a row stands its element
  pub row_behind : (key behind : List ℕ) (row : List ℕ × Datum) (rest : List ℕ) → IsTextIn f key → IsTextIn f row.0 → spelled_text_in f key ++ behind ≡ spelled_row_in f row ++ rest → behind ≡ spelled_datum_in f row.1 ++ rest
  row_behind key behind row rest is_key is_row is =
      (text_apart key row.0 behind (spelled_datum_in f row.1 ++ rest) is_key is_row (is ∙ append_assoc (spelled_text_in f row.0) (spelled_datum_in f row.1) rest)).1
