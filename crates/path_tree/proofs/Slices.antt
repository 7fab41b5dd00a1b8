-- The bytes of a slice.
use Rattle.std.proofs.Common.{◌≡◌, ℕ, ◌+◌, ◌-◌, ◌<◌, ◌≤◌, suc, List, [], ◌∷◌, length, take, drop, slice_index, sym, ap, ◌∙◌, subst, ⊎_elim, arith, length-take, length-drop, get_or-take, get_or-drop}
use Rattle.std.specs.Prelude.{slice_range, All}
use Rattle.std.proofs.lemmas.List.{drop_more, get_or_default, get_or_past}
use Rattle.std.proofs.str.Laws.{order}

pub length_slice : (source : List ℕ) (from to : ℕ) → to ≤ length source → length (slice_range source from to) ≡ to - from
length_slice source from to within = omega (arith, length-take (to - from) (drop from source), length-drop from source)

-- the first byte, and then the others
pub slice_more : (source : List ℕ) (from to : ℕ) → from < to → to ≤ length source → slice_range source from to ≡ slice_index source from ∷ slice_range source (from + 1) to
slice_more source from to some within =
    let n : to - from ≡ suc (to - (from + 1)) = omega arith in
    ap (λ k. take k (drop from source)) n ∙ ap (take (suc (to - (from + 1)))) (drop_more source from 0 (omega arith))

pub slice_none : (source : List ℕ) (at : ℕ) → slice_range source at at ≡ []
slice_none source at = let n : at - at ≡ 0 = omega arith in ap (λ k. take k (drop at source)) n

pub slice_one : (source : List ℕ) (at : ℕ) → at < length source → slice_range source at (at + 1) ≡ slice_index source at ∷ []
slice_one source at within = slice_more source at (at + 1) (omega arith) (omega arith) ∙ ap (λ xs. slice_index source at ∷ xs) (slice_none source (at + 1))

pub slice_two : (source : List ℕ) (at : ℕ) → at + 1 < length source → slice_range source at (at + 2) ≡ slice_index source at ∷ slice_index source (at + 1) ∷ []
slice_two source at within =
    let n : at + 2 ≡ (at + 1) + 1 = omega arith in
    slice_more source at (at + 2) (omega arith) (omega arith)
    ∙ ap (λ xs. slice_index source at ∷ xs) (ap (slice_range source (at + 1)) n ∙ slice_one source (at + 1) within)

-- what holds of each byte between two places holds of the slice
pub slice_all : (P : ℕ → Type 0) (source : List ℕ) (from to : ℕ) → to ≤ length source → ((k : ℕ) → from ≤ k → k < to → P (slice_index source k)) → All P (slice_range source from to)
slice_all P source from to within h = λ k d inside.
    let n = length_slice source from to within in
    let below : k < to - from = omega arith in
    subst P (sym (get_or-take (to - from) (drop from source) k d below ∙ get_or-drop from source k d ∙ get_or_default source (from + k) d 0 (omega arith))) (h (from + k) (omega arith) (omega arith))

-- a byte that is not 0 stands before the end
pub byte_within : (source : List ℕ) (at : ℕ) → 0 < slice_index source at → at < length source
byte_within source at some = ⊎_elim (λ h. h) (λ past. absurd (omega (arith, get_or_past source at 0 past))) (order at (length source))
