-- What bytes tell is what they spell.
use Rattle.std.proofs.Common.{◌≡◌, ℕ, ◌<◌, ◌≤◌, ◌^◌, List, [], ◌∷◌, ◌++◌, length, take, drop, refl, sym, ap, ◌∙◌, append_assoc, arith}
use Rattle.std.specs.Prelude.{All}
use Rattle.std.specs.Int.{w16, to_be_bytes}
use Rattle.std.specs.List.{flat_map}
use Rattle.std.specs.FinMap as maps
use Rattle.std.proofs.Math.Seq.{take-append_seam, drop-append_seam}
use Rattle.std.proofs.lemmas.Nat.{from_be_bytes-to_be_bytes_2, from_be_bytes-to_be_bytes_4}
use Rattle.value_core.specs.TextOrder.{text_cmp}
use Rattle.value_core.specs.Plain.{IsText}
use Rattle.value_core.specs.declared.format.Format.TheVariants.{Second}
use Rattle.value_core.specs.declared.datum.Datum.{Datum}
use Rattle.value_core.specs.declared.datum.Datum.TheVariants as datum
use Rattle.value_core.specs.declared.kind.Elem.{Elem}
use Rattle.value_core.specs.declared.kind.Elem.TheVariants as elem
use Rattle.value_core.specs.Limits.{most_elements}
use Rattle.value_core.specs.Datum.{IsElement}
use Rattle.value_core.specs.Contents.{Contents, array, queue, table, kind_of, IsContents, IsRow}
use Rattle.value_bytes.specs.Spelling.{spelled_text, spelled_datum, spelled_row, spelling}
use Rattle.apply_core.specs.There.{number_there, text_there, behind_text, datum_there, behind_datum, data_there, rows_there, contents_there, BytesTell}
use Rattle.value_core.proofs.TableRows.{head, tail}
use Rattle.value_bytes.proofs.Apart.{few_fits, other_sort}

number_is : (n : ℕ) (rest : List ℕ) → n < 2 ^ 16 → number_there (to_be_bytes w16 n ++ rest) ≡ n
number_is n rest small = from_be_bytes-to_be_bytes_2 n small

text_is : (t rest : List ℕ) → IsText t → text_there (spelled_text t ++ rest) ≡ t
text_is t rest is = ap (λ n. take n (t ++ rest)) (number_is (length t) (t ++ rest) (few_fits Second t is)) ∙ take-append_seam t rest

past_is : (t rest : List ℕ) → IsText t → behind_text (spelled_text t ++ rest) ≡ rest
past_is t rest is = ap (λ n. drop n (t ++ rest)) (number_is (length t) (t ++ rest) (few_fits Second t is)) ∙ drop-append_seam t rest

datum_is : (e : Elem) (d : Datum) (rest : List ℕ) → IsElement e d → (datum_there e (spelled_datum d ++ rest) ≡ d) × (behind_datum e (spelled_datum d ++ rest) ≡ rest)
datum_is elem.Integer (datum.Integer n) rest is = (ap datum.Integer (from_be_bytes-to_be_bytes_4 n is.datum), refl)
datum_is elem.Integer (datum.Text t) rest is = absurd (other_sort elem.Integer refl is.sort)
datum_is elem.Text (datum.Integer n) rest is = absurd (other_sort elem.Text is.sort refl)
datum_is elem.Text (datum.Text t) rest is = (ap datum.Text (text_is t rest is.datum), past_is t rest is.datum)

data_are : (e : Elem) (xs : List Datum) → All (IsElement e) xs → data_there e (length xs) (flat_map spelled_datum xs) ≡ xs
data_are e [] each = refl
data_are e (x ∷ xs) each =
    let front = datum_is e x (flat_map spelled_datum xs) (head (IsElement e) x xs each) in
    let more : data_there e (length xs) (behind_datum e (spelled_datum x ++ flat_map spelled_datum xs)) ≡ xs = ap (data_there e (length xs)) front.1 ∙ data_are e xs (tail (IsElement e) x xs each) in
    λ i. front.0 i ∷ more i

rows_are : (e : Elem) (es : List (List ℕ × Datum)) → All (IsRow e) es → rows_there e (length es) (flat_map spelled_row es) ≡ es
rows_are e [] each = refl
rows_are e (r ∷ es) each =
    let is = head (IsRow e) r es each in
    let later = flat_map spelled_row es in
    let whole : flat_map spelled_row (r ∷ es) ≡ spelled_text r.0 ++ (spelled_datum r.1 ++ later) = append_assoc (spelled_text r.0) (spelled_datum r.1) later in
    let front = datum_is e r.1 later is.element in
    let key : text_there (flat_map spelled_row (r ∷ es)) ≡ r.0 = ap text_there whole ∙ text_is r.0 (spelled_datum r.1 ++ later) is.key in
    let behind : behind_text (flat_map spelled_row (r ∷ es)) ≡ spelled_datum r.1 ++ later = ap behind_text whole ∙ past_is r.0 (spelled_datum r.1 ++ later) is.key in
    let value : datum_there e (behind_text (flat_map spelled_row (r ∷ es))) ≡ r.1 = ap (datum_there e) behind ∙ front.0 in
    let more : rows_there e (length es) (behind_datum e (behind_text (flat_map spelled_row (r ∷ es)))) ≡ es = ap (λ b. rows_there e (length es) (behind_datum e b)) behind ∙ ap (rows_there e (length es)) front.1 ∙ rows_are e es (tail (IsRow e) r es each) in
    λ i. (key i, value i) ∷ more i

few_small : (n : ℕ) → n ≤ most_elements → n < 2 ^ 16
few_small n few = omega (arith, few)

told : (v : Contents) → IsContents v → contents_there (kind_of v) (spelling v) ≡ v
told (array e xs) is = ap (array e) (data_are e xs is.each)
told (queue e xs) is =
    ap (queue e) (ap (λ n. data_there e n (flat_map spelled_datum xs)) (number_is (length xs) (flat_map spelled_datum xs) (few_small (length xs) is.few)) ∙ data_are e xs is.each)
told (table e m) is =
    let es = maps.entries m in
    let count : number_there (to_be_bytes w16 (maps.len m) ++ flat_map spelled_row es) ≡ length es = number_is (maps.len m) (flat_map spelled_row es) (few_small (maps.len m) is.few) ∙ maps.len-entries m in
    let rows : rows_there e (number_there (to_be_bytes w16 (maps.len m) ++ flat_map spelled_row es)) (flat_map spelled_row es) ≡ es = ap (λ n. rows_there e n (flat_map spelled_row es)) count ∙ rows_are e es is.each in
    let same : maps.from_sorted {R = text_cmp} (rows_there e (number_there (to_be_bytes w16 (maps.len m) ++ flat_map spelled_row es)) (flat_map spelled_row es)) ≡ m = ap (λ fs. maps.from_sorted {R = text_cmp} fs) rows ∙ maps.same_entries_map (maps.from_sorted {R = text_cmp} es) m (maps.entries-from_sorted text_cmp es (maps.entries_sorted m)) in
    ap (table e) same

pub bytes_tell : BytesTell
bytes_tell bytes k v is = ap (λ b. contents_there k b) is.spelled ∙ ap (λ l. contents_there l (spelling v)) (sym is.kind) ∙ told v is.contents
