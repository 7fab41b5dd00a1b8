-- How long spellings are.
use Rattle.std.proofs.Common.{◌≡◌, ℕ, ◌*◌, ◌<◌, ◌≤◌, List, [], ◌∷◌, ◌++◌, length, refl, sym, subst, arith, length-append}
use Rattle.std.specs.Prelude.{All}
use Rattle.std.specs.List.{flat_map}
use Rattle.std.specs.FinMap as map
use Rattle.std.proofs.lemmas.List.Elements.{All-head, All-tail}
use Rattle.value_core.specs.declared.datum.Datum.{Datum}
use Rattle.value_core.specs.declared.datum.Datum.TheVariants as datum
use Rattle.value_core.specs.declared.kind.Elem.{Elem}
use Rattle.value_core.specs.declared.kind.Kind.{Kind}
use Rattle.value_core.specs.declared.kind.Kind.TheVariants as kind
use Rattle.value_core.specs.Datum.{IsElement}
use Rattle.value_core.specs.Contents.{Contents, array, queue, table, IsContents, IsRow}
use Rattle.value_core.specs.TextOrder.{text_cmp}
use Rattle.value_bytes.specs.Spelling.{spelled_text, spelled_datum, spelled_row, header, spelling}
use Rattle.page_core.specs.StoreLaws.{SpellingsFit}

datum_few : (e : Elem) (d : Datum) → IsElement e d → length (spelled_datum d) ≤ 1002
datum_few e (datum.Integer n) is = omega arith
datum_few e (datum.Text t) is = omega (arith, is.datum.few)

row_few : (e : Elem) (row : List ℕ × Datum) → IsRow e row → length (spelled_row row) ≤ 2004
row_few e row is = omega (arith, is.key.few, datum_few e row.1 is.element, length-append (spelled_text row.0) (spelled_datum row.1))

each_few_1002 : {X : Type 0} (P : X → Type 0) (spell : X → List ℕ) → ((x : X) → P x → length (spell x) ≤ 1002) → (xs : List X) → All P xs → length (flat_map spell xs) ≤ 1002 * length xs
each_few_1002 P spell one [] each = omega arith
each_few_1002 P spell one (x ∷ xs) each = omega (arith, one x (All-head P x xs each), each_few_1002 P spell one xs (All-tail P x xs each), length-append (spell x) (flat_map spell xs))

each_few_2004 : {X : Type 0} (P : X → Type 0) (spell : X → List ℕ) → ((x : X) → P x → length (spell x) ≤ 2004) → (xs : List X) → All P xs → length (flat_map spell xs) ≤ 2004 * length xs
each_few_2004 P spell one [] each = omega arith
each_few_2004 P spell one (x ∷ xs) each = omega (arith, one x (All-head P x xs each), each_few_2004 P spell one xs (All-tail P x xs each), length-append (spell x) (flat_map spell xs))

header_long : (k : Kind) (count : ℕ) → length (header k count) ≡ 4
header_long k count = refl

whole_few : (k : Kind) (count : ℕ) (behind : List ℕ) → length behind ≤ 2052096 → (0 < length (header k count ++ behind)) × (length (header k count ++ behind) ≤ 2052100)
whole_few k count behind few = (omega (arith, length-append (header k count) behind, header_long k count), omega (arith, few, length-append (header k count) behind, header_long k count))

many : (m : map.FinMap text_cmp Datum) → length (map.entries m) ≡ map.len m
many m = sym (map.len-entries m)

few : (value : Contents) → IsContents value → (0 < length (spelling value)) × (length (spelling value) ≤ 2052100)
few (array e xs) is = whole_few (kind.Array (length xs) e) (length xs) (flat_map spelled_datum xs) (omega (arith, is.few, each_few_1002 (IsElement e) spelled_datum (datum_few e) xs is.each))
few (queue e xs) is = whole_few (kind.Queue e) (length xs) (flat_map spelled_datum xs) (omega (arith, is.few, each_few_1002 (IsElement e) spelled_datum (datum_few e) xs is.each))
few (table e m) is = whole_few (kind.Table e) (map.len m) (flat_map spelled_row (map.entries m)) (omega (arith, is.few, many m, each_few_2004 (IsRow e) spelled_row (row_few e) (map.entries m) is.each))

pub spellings_fit : SpellingsFit
spellings_fit bytes kind value is = subst (λ (b : List ℕ). (0 < length b) × (length b ≤ 2052100)) (sym is.spelled) (few value is.contents)
