-- Elements that are written one after another.
use Rattle.std.proofs.Common.{◌≡◌, ℕ, ◌+◌, List, [], ◌∷◌, ◌++◌, take, Some, sym, ap, ◌∙◌}
use Rattle.std.specs.Prelude.{slice_get, map}
use Rattle.std.specs.List.{flat_map}
use Rattle.std.specs.List.Sorted.{IsStrictlySortedBy}
use Rattle.std.specs.FinMap as map
use Rattle.std.proofs.lemmas.List.{take_more, flat_map_more}
use Rattle.std.proofs.lemmas.Option.{slice_get_within, get_or_from_slice_get}
use Rattle.value_core.specs.declared.datum.Datum.{Datum}
use Rattle.value_core.specs.TextOrder.{text_cmp}
use Rattle.value_core.specs.Rows.{as_data}
use Rattle.value_bytes.specs.Spelling.{spelled_row}
use Rattle.value_core.proofs.Tables.{in_order}

-- one element more is written
pub put_next : {X : Type 0} (spell : X → List ℕ) (out : List ℕ) (xs : List X) (i : ℕ) (x : X) → slice_get xs i ≡ Some x → (out ++ flat_map spell (take i xs)) ++ spell x ≡ out ++ flat_map spell (take (i + 1) xs)
put_next spell out xs i x is =
    let here : take (i + 1) xs ≡ take i xs ++ x ∷ [] = take_more xs i x (slice_get_within xs i x is) ∙ ap (λ y. take i xs ++ y ∷ []) (get_or_from_slice_get xs i x x is) in
    flat_map_more spell out (take i xs) x ∙ ap (λ ys. out ++ flat_map spell ys) (sym here)

-- all rows are written
pub rows_put : {X : Type 0} (datum : X → Datum) (out : List ℕ) (es fs : List (List ℕ × X)) → fs ≡ es → IsStrictlySortedBy text_cmp (map (λ e. e.0) es)
    → out ++ flat_map spelled_row (as_data datum fs) ≡ out ++ flat_map spelled_row (map.entries (map.from_entries {R = text_cmp} (as_data datum es)))
rows_put datum out es fs all sorted = ap (λ rows. out ++ flat_map spelled_row rows) (ap (as_data datum) all ∙ sym (in_order datum es sorted))
