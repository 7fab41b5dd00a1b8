-- The entries of a program's map, as a finite map of bytes.
use Rattle.std.proofs.Common.{◌≡◌, ℕ, true, false, cond, List, [], ◌∷◌, Some, refl, sym, ap, ◌∙◌}
use Rattle.std.specs.Prelude.{option_map}
use Rattle.std.specs.declared.cmp.Ordering.{Ordering}
use Rattle.std.specs.declared.cmp.Ordering.TheVariants.{Less, Equal, Greater}
use Rattle.std.specs.Ordering.{nat_cmp, match_ordering, eq_by_cmp}
use Rattle.std.specs.Cmp.Lexicographic.{slice_cmp, nat_list_cmp_total}
use Rattle.std.specs.FinMap.{find, put, get, insert, from_entries, get-from_entries, get-insert, same_map, slice_cmp-IsAntisymmetric, nat_cmp-IsAntisymmetric}
use Rattle.std.specs.FinMap.Entries.{by_order, find-put}
use Rattle.std.specs.BTreeMap.{is_at, insert_entry}
use Rattle.std.specs.Map.{lookup}
use Rattle.std.specs.Global.{Vec}
use Rattle.device_core.specs.MemShelf.{as_bytes}

-- names by their bytes
abbrev names : List ℕ → List ℕ → Ordering
names = slice_cmp nat_cmp

find_at : (es : List (Vec ℕ × Vec ℕ)) (q : List ℕ) → find names q (as_bytes es) ≡ option_map (λ (v : Vec ℕ). v.items) (lookup (is_at (λ (k : Vec ℕ). names q k.items)) es)
find_at [] q = refl
find_at (e ∷ es) q = elim (is_at (λ (k : Vec ℕ). names q k.items) e.0) as (λ b. cond b (Some e.1.items) (find names q (as_bytes es)) ≡ option_map (λ (v : Vec ℕ). v.items) (cond b (Some e.1) (lookup (is_at (λ (k : Vec ℕ). names q k.items)) es))) [ true ↦ refl | false ↦ find_at es q ]

-- what is found under a name
pub get_at : (es : List (Vec ℕ × Vec ℕ)) (q : List ℕ) → get (from_entries {R = names} (as_bytes es)) q ≡ option_map (λ (v : Vec ℕ). v.items) (lookup (is_at (λ (k : Vec ℕ). names q k.items)) es)
get_at es q = get-from_entries nat_list_cmp_total (as_bytes es) q ∙ find_at es q

-- an entry is put at the same place in both
put_at : (es : List (Vec ℕ × Vec ℕ)) (k v : Vec ℕ) → as_bytes (insert_entry (λ (x y : Vec ℕ). names x.items y.items) es k v) ≡ put names k.items v.items (as_bytes es)
put_at [] k v = refl
put_at (e ∷ es) k v = elim (names k.items e.0.items) as (λ r. as_bytes (match_ordering r ((k, v) ∷ e ∷ es) ((e.0, v) ∷ es) (e ∷ insert_entry (λ (x y : Vec ℕ). names x.items y.items) es k v)) ≡ by_order r ((k.items, v.items) ∷ as_bytes (e ∷ es)) ((e.0.items, v.items) ∷ as_bytes es) ((e.0.items, e.1.items) ∷ put names k.items v.items (as_bytes es))) [ Less ↦ refl | Equal ↦ refl | Greater ↦ ap (λ (t : List (List ℕ × List ℕ)). (e.0.items, e.1.items) ∷ t) (put_at es k v) ]

-- bytes are put under a name
pub stored : (es : List (Vec ℕ × Vec ℕ)) (k v : Vec ℕ) → from_entries {R = names} (as_bytes (insert_entry (λ (x y : Vec ℕ). names x.items y.items) es k v)) ≡ insert (from_entries (as_bytes es)) k.items v.items
stored es k v = same_map nat_list_cmp_total (slice_cmp-IsAntisymmetric nat_cmp-IsAntisymmetric) _ _ (λ q.
    get-from_entries nat_list_cmp_total _ q ∙ ap (find names q) (put_at es k v) ∙ find-put names nat_list_cmp_total q k.items v.items (as_bytes es)
    ∙ ap (cond (eq_by_cmp names q k.items) (Some v.items)) (sym (get-from_entries nat_list_cmp_total (as_bytes es) q))
    ∙ sym (get-insert nat_list_cmp_total (from_entries (as_bytes es)) k.items v.items q))
