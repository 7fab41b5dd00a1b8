-- What is shown of a value tells it.
use Rattle.std.proofs.Common.{◌≡◌, ◌≢◌, ℕ, ◌<◌, ◌≤◌, ◌^◌, List, [], ◌∷◌, ◌++◌, length, refl, sym, ap, ◌∙◌, subst, arith, append_assoc, inl, inr}
use Rattle.std.specs.Prelude.{All, Some, map, decimal}
use Rattle.std.specs.FinMap as maps
use Rattle.std.proofs.lemmas.Bool.{cases_eq}
use Rattle.std.proofs.lemmas.Fmt.{digits_decimal, decimal_nonempty}
use Rattle.std.proofs.lemmas.List.{append_cancel_right}
use Rattle.std.proofs.lemmas.List.Elements.{All-from_get_or, All-head, All-tail}
use Rattle.value_core.specs.declared.datum.Datum.{Datum}
use Rattle.value_core.specs.declared.datum.Datum.TheVariants.{Integer, Text}
use Rattle.value_core.specs.declared.kind.Elem.{Elem}
use Rattle.value_core.specs.Kinds.{sort_of}
use Rattle.value_core.specs.Datum.{IsDatum, IsElement}
use Rattle.value_core.specs.Contents.{array, queue, table, IsRow}
use Rattle.word_core.specs.Words.{quoted, doubled, word_text, AreWords}
use Rattle.word_core.specs.Data.{datum_word, integer_of, data_of}
use Rattle.word_core.specs.Show.{data_text, row_text, behind_row, rows_text}
use Rattle.word_core.specs.Laws.{ShownApart}
use Rattle.word_core.proofs.Quoting.{twice, once}
use Rattle.word_core.proofs.Cutting.{words_unique}
use Rattle.word_core.proofs.Numerals.{digits, digit_within, integer_of-decimal}
use Rattle.word_core.proofs.Written.{written_words}
use Rattle.word_core.proofs.Clear.{written_data}

abbrev IsDigit : ℕ → Type 0
IsDigit b = (48 ≤ b) × (b ≤ 57)

-- neither an apostrophe nor a digit stands first
record Stops (rest : List ℕ) : Type 0 where
  quote : (more : List ℕ) → rest ≡ 39 ∷ more → ⊥
  digit : (b : ℕ) (more : List ℕ) → IsDigit b → rest ≡ b ∷ more → ⊥

stops_at : (b : ℕ) (rest : List ℕ) → b ≢ 39 → (IsDigit b → ⊥) → Stops (b ∷ rest)
stops_at b rest other none = record {
  quote = λ more is. let e : b ≡ 39 = cc in other e;
  digit = λ x more digit is. let e : x ≡ b = cc in none (subst IsDigit e digit);
}

quoted_apart : (t u r s : List ℕ) → Stops r → Stops s → doubled t ++ 39 ∷ r ≡ doubled u ++ 39 ∷ s → (t ≡ u) × (r ≡ s)
quoted_apart [] [] r s p q is = let e : r ≡ s = cc in (refl, e)
quoted_apart [] (y ∷ u) r s p q is = elim (cases_eq y 39) [
  | inl twins ↦ let e : 39 ∷ r ≡ 39 ∷ 39 ∷ (doubled u ++ 39 ∷ s) = is ∙ ap (λ zs. zs ++ 39 ∷ s) (twice y u twins) in
      let tail : r ≡ 39 ∷ (doubled u ++ 39 ∷ s) = cc in absurd (p.quote (doubled u ++ 39 ∷ s) tail)
  | inr other ↦ let e : 39 ∷ r ≡ y ∷ (doubled u ++ 39 ∷ s) = is ∙ ap (λ zs. zs ++ 39 ∷ s) (once y u other) in
      let wrong : y ≡ 39 = cc in absurd (other wrong)
]
quoted_apart (x ∷ t) [] r s p q is = elim (cases_eq x 39) [
  | inl twins ↦ let e : 39 ∷ s ≡ 39 ∷ 39 ∷ (doubled t ++ 39 ∷ r) = sym is ∙ ap (λ zs. zs ++ 39 ∷ r) (twice x t twins) in
      let tail : s ≡ 39 ∷ (doubled t ++ 39 ∷ r) = cc in absurd (q.quote (doubled t ++ 39 ∷ r) tail)
  | inr other ↦ let e : 39 ∷ s ≡ x ∷ (doubled t ++ 39 ∷ r) = sym is ∙ ap (λ zs. zs ++ 39 ∷ r) (once x t other) in
      let wrong : x ≡ 39 = cc in absurd (other wrong)
]
quoted_apart (x ∷ t) (y ∷ u) r s p q is =
    let step : x ≡ y → doubled t ++ 39 ∷ r ≡ doubled u ++ 39 ∷ s → (x ∷ t ≡ y ∷ u) × (r ≡ s) =
    λ first tails. let later = quoted_apart t u r s p q tails in ((λ i. first i ∷ later.0 i), later.1) in
    elim (cases_eq x 39) [
      | inl a ↦ elim (cases_eq y 39) [
        | inl b ↦ let e : 39 ∷ 39 ∷ (doubled t ++ 39 ∷ r) ≡ 39 ∷ 39 ∷ (doubled u ++ 39 ∷ s) = ap (λ zs. zs ++ 39 ∷ r) (sym (twice x t a)) ∙ is ∙ ap (λ zs. zs ++ 39 ∷ s) (twice y u b) in step (a ∙ sym b) (cc)
        | inr b ↦ let e : 39 ∷ 39 ∷ (doubled t ++ 39 ∷ r) ≡ y ∷ (doubled u ++ 39 ∷ s) = ap (λ zs. zs ++ 39 ∷ r) (sym (twice x t a)) ∙ is ∙ ap (λ zs. zs ++ 39 ∷ s) (once y u b) in
            let wrong : y ≡ 39 = cc in absurd (b wrong)
      ]
      | inr a ↦ elim (cases_eq y 39) [
        | inl b ↦ let e : x ∷ (doubled t ++ 39 ∷ r) ≡ 39 ∷ 39 ∷ (doubled u ++ 39 ∷ s) = ap (λ zs. zs ++ 39 ∷ r) (sym (once x t a)) ∙ is ∙ ap (λ zs. zs ++ 39 ∷ s) (twice y u b) in
            let wrong : x ≡ 39 = cc in absurd (a wrong)
        | inr b ↦ let e : x ∷ (doubled t ++ 39 ∷ r) ≡ y ∷ (doubled u ++ 39 ∷ s) = ap (λ zs. zs ++ 39 ∷ r) (sym (once x t a)) ∙ is ∙ ap (λ zs. zs ++ 39 ∷ s) (once y u b) in step (cc) (cc)
      ]
    ]

text_apart : (t u r s : List ℕ) → Stops r → Stops s → word_text (quoted t) ++ r ≡ word_text (quoted u) ++ s → (t ≡ u) × (r ≡ s)
text_apart t u r s p q is =
    let tails : (doubled t ++ 39 ∷ []) ++ r ≡ (doubled u ++ 39 ∷ []) ++ s = cc in quoted_apart t u r s p q (simp append_assoc at tails)

run_apart : (x y r s : List ℕ) → All IsDigit x → All IsDigit y → Stops r → Stops s → x ++ r ≡ y ++ s → (x ≡ y) × (r ≡ s)
run_apart [] [] r s a b p q is = (refl, is)
run_apart [] (d ∷ y) r s a b p q is = absurd (p.digit d (y ++ s) (All-head IsDigit d y b) is)
run_apart (c ∷ x) [] r s a b p q is = absurd (q.digit c (x ++ r) (All-head IsDigit c x a) (sym is))
run_apart (c ∷ x) (d ∷ y) r s a b p q is =
    let first : c ≡ d = cc in
    let tails : x ++ r ≡ y ++ s = cc in
    let later = run_apart x y r s (All-tail IsDigit c x a) (All-tail IsDigit d y b) p q tails in
    ((λ i. first i ∷ later.0 i), later.1)

all_digits : (n : ℕ) → n < 2 ^ 32 → All IsDigit (decimal n)
all_digits n few = All-from_get_or IsDigit (decimal n) 0 (λ i inside. digit_within (decimal n) i (digits_decimal digits n (omega arith)) inside)

no_quote : (x r more : List ℕ) → All IsDigit x → 0 < length x → x ++ r ≡ 39 ∷ more → ⊥
no_quote [] r more each some is = omega arith
no_quote (d ∷ x) r more each some is = let wrong : d ≡ 39 = cc in let digit = All-head IsDigit d x each in omega (arith, wrong, digit.0)

some_same : {A : Type 0} (x y : A) → Some x ≡ Some y → x ≡ y
some_same x y is = cc

datum_apart : (d e : Datum) (r s : List ℕ) → IsDatum d → IsDatum e → Stops r → Stops s → word_text (datum_word d) ++ r ≡ word_text (datum_word e) ++ s → (d ≡ e) × (r ≡ s)
datum_apart (Integer m) (Integer n) r s a b p q is =
    let both = run_apart (decimal m) (decimal n) r s (all_digits m a) (all_digits n b) p q is in
    let same : m ≡ n = some_same m n (sym (integer_of-decimal m a) ∙ ap integer_of both.0 ∙ integer_of-decimal n b) in
    (ap Integer same, both.1)
datum_apart (Integer m) (Text u) r s a b p q is = absurd (no_quote (decimal m) r ((doubled u ++ 39 ∷ []) ++ s) (all_digits m a) (decimal_nonempty m (omega arith)) is)
datum_apart (Text t) (Integer n) r s a b p q is = absurd (no_quote (decimal n) s ((doubled t ++ 39 ∷ []) ++ r) (all_digits n b) (decimal_nonempty n (omega arith)) (sym is))
datum_apart (Text t) (Text u) r s a b p q is = let both = text_apart t u r s p q is in (ap Text both.0, both.1)

colon : (rest : List ℕ) → Stops (58 ∷ rest)
colon rest = stops_at 58 rest (λ h. omega (arith, h)) (λ h. omega (arith, h.1))

row_apart : (v w : List ℕ × Datum) (r s : List ℕ) → IsDatum v.1 → IsDatum w.1 → Stops r → Stops s → row_text v ++ r ≡ row_text w ++ s → (v ≡ w) × (r ≡ s)
row_apart v w r s a b p q is =
    let x = word_text (datum_word v.1) in
    let y = word_text (datum_word w.1) in
    let left : row_text v ++ r ≡ word_text (quoted v.0) ++ (58 ∷ 32 ∷ (x ++ r)) = simp append_assoc in
    let right : row_text w ++ s ≡ word_text (quoted w.0) ++ (58 ∷ 32 ∷ (y ++ s)) = simp append_assoc in
    let keys = text_apart v.0 w.0 (58 ∷ 32 ∷ (x ++ r)) (58 ∷ 32 ∷ (y ++ s)) (colon (32 ∷ (x ++ r))) (colon (32 ∷ (y ++ s))) (sym left ∙ is ∙ right) in
    let behind : x ++ r ≡ y ++ s = let e = keys.1 in cc in
    let both = datum_apart v.1 w.1 r s a b p q behind in
    ((λ i. (keys.0 i, both.0 i)), both.1)

abbrev HasDatum : List ℕ × Datum → Type 0
HasDatum row = IsDatum row.1

stops_rows : (rows : List (List ℕ × Datum)) → Stops (behind_row rows ++ 125 ∷ [])
stops_rows [] = stops_at 125 [] (λ h. omega (arith, h)) (λ h. omega (arith, h.1))
stops_rows (row ∷ more) = stops_at 44 ((32 ∷ [] ++ row_text row ++ behind_row more) ++ 125 ∷ []) (λ h. omega (arith, h)) (λ h. omega (arith, h.0))

other_bytes : {P : Type 0} (b c : ℕ) (x y : List ℕ) → b < c → b ∷ x ≡ c ∷ y → P
other_bytes b c x y less is = let wrong : b ≡ c = cc in absurd (omega (arith, wrong, less))

rest_apart : (a b : List (List ℕ × Datum)) → All HasDatum a → All HasDatum b → behind_row a ++ 125 ∷ [] ≡ behind_row b ++ 125 ∷ [] → a ≡ b
rest_apart [] [] p q is = refl
rest_apart [] (w ∷ b) p q is = other_bytes 44 125 ((32 ∷ [] ++ row_text w ++ behind_row b) ++ 125 ∷ []) [] (omega arith) (sym is)
rest_apart (v ∷ a) [] p q is = other_bytes 44 125 ((32 ∷ [] ++ row_text v ++ behind_row a) ++ 125 ∷ []) [] (omega arith) is
rest_apart (v ∷ a) (w ∷ b) p q is =
    let tails : (row_text v ++ behind_row a) ++ 125 ∷ [] ≡ (row_text w ++ behind_row b) ++ 125 ∷ [] = cc in
    let both = row_apart v w (behind_row a ++ 125 ∷ []) (behind_row b ++ 125 ∷ []) (All-head HasDatum v a p) (All-head HasDatum w b q) (stops_rows a) (stops_rows b)
    (sym (append_assoc (row_text v) (behind_row a) (125 ∷ [])) ∙ tails ∙ append_assoc (row_text w) (behind_row b) (125 ∷ [])) in
    let later = rest_apart a b (All-tail HasDatum v a p) (All-tail HasDatum w b q) both.1 in
    λ i. both.0 i ∷ later i

rows_apart : (a b : List (List ℕ × Datum)) → All HasDatum a → All HasDatum b → rows_text a ++ 125 ∷ [] ≡ rows_text b ++ 125 ∷ [] → a ≡ b
rows_apart [] [] p q is = refl
rows_apart [] (w ∷ b) p q is = let e = sym is in other_bytes 39 125 _ [] (omega arith) e
rows_apart (v ∷ a) [] p q is = other_bytes 39 125 _ [] (omega arith) is
rows_apart (v ∷ a) (w ∷ b) p q is =
    let both = row_apart v w (behind_row a ++ 125 ∷ []) (behind_row b ++ 125 ∷ []) (All-head HasDatum v a p) (All-head HasDatum w b q) (stops_rows a) (stops_rows b)
    (sym (append_assoc (row_text v) (behind_row a) (125 ∷ [])) ∙ is ∙ append_assoc (row_text w) (behind_row b) (125 ∷ [])) in
    let later = rest_apart a b (All-tail HasDatum v a p) (All-tail HasDatum w b q) both.1 in
    λ i. both.0 i ∷ later i

elements_apart : (xs ys : List Datum) (c : ℕ) → All IsDatum xs → All IsDatum ys → data_text xs ++ c ∷ [] ≡ data_text ys ++ c ∷ [] → xs ≡ ys
elements_apart xs ys c p q is =
    let x = written_data xs p in
    let y = written_data ys q in
    let same = words_unique (data_text xs) (map datum_word xs) (map datum_word ys) (written_words (map datum_word xs) x.0)
    (subst (λ t. AreWords t (map datum_word ys)) (sym (append_cancel_right (data_text xs) (data_text ys) (c ∷ []) is)) (written_words (map datum_word ys) y.0)) in
    some_same xs ys (sym x.2 ∙ ap data_of same ∙ y.2)

data_of_elements : (e : Elem) (xs : List Datum) → All (IsElement e) xs → All IsDatum xs
data_of_elements e xs each = λ k d inside. (each k d inside).datum

data_of_rows : (e : Elem) (rows : List (List ℕ × Datum)) → All (IsRow e) rows → All HasDatum rows
data_of_rows e rows each = λ k d inside. (each k d inside).element.datum

pub shown_apart : ShownApart
shown_apart (array e xs) (array f ys) a b kinds is =
    let sorts : e ≡ f = ap sort_of kinds in
    let tails : data_text xs ++ 93 ∷ [] ≡ data_text ys ++ 93 ∷ [] = cc in
    let same = elements_apart xs ys 93 (data_of_elements e xs a.each) (data_of_elements f ys b.each) tails in
    λ i. array (sorts i) (same i)
shown_apart (array e xs) (queue f ys) a b kinds is = other_bytes 60 91 (data_text ys ++ 62 ∷ []) (data_text xs ++ 93 ∷ []) (omega arith) (sym is)
shown_apart (array e xs) (table f n) a b kinds is = other_bytes 91 123 (data_text xs ++ 93 ∷ []) (rows_text (maps.entries n) ++ 125 ∷ []) (omega arith) is
shown_apart (queue e xs) (array f ys) a b kinds is = other_bytes 60 91 (data_text xs ++ 62 ∷ []) (data_text ys ++ 93 ∷ []) (omega arith) is
shown_apart (queue e xs) (queue f ys) a b kinds is =
    let sorts : e ≡ f = ap sort_of kinds in
    let tails : data_text xs ++ 62 ∷ [] ≡ data_text ys ++ 62 ∷ [] = cc in
    let same = elements_apart xs ys 62 (data_of_elements e xs a.each) (data_of_elements f ys b.each) tails in
    λ i. queue (sorts i) (same i)
shown_apart (queue e xs) (table f n) a b kinds is = other_bytes 60 123 (data_text xs ++ 62 ∷ []) (rows_text (maps.entries n) ++ 125 ∷ []) (omega arith) is
shown_apart (table e m) (array f ys) a b kinds is = other_bytes 91 123 (data_text ys ++ 93 ∷ []) (rows_text (maps.entries m) ++ 125 ∷ []) (omega arith) (sym is)
shown_apart (table e m) (queue f ys) a b kinds is = other_bytes 60 123 (data_text ys ++ 62 ∷ []) (rows_text (maps.entries m) ++ 125 ∷ []) (omega arith) (sym is)
shown_apart (table e m) (table f n) a b kinds is =
    let sorts : e ≡ f = ap sort_of kinds in
    let tails : rows_text (maps.entries m) ++ 125 ∷ [] ≡ rows_text (maps.entries n) ++ 125 ∷ [] = cc in
    let same = rows_apart (maps.entries m) (maps.entries n) (data_of_rows e (maps.entries m) a.each) (data_of_rows f (maps.entries n) b.each) tails in
    let one : m ≡ n = maps.same_entries_map m n same in
    λ i. table (sorts i) (one i)
