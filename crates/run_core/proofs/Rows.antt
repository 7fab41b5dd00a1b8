-- Bytes that are put at a place of a row, with empty ones before them.
use Rattle.std.proofs.Common.{◌≡◌, ℕ, zero, suc, ◌+◌, ◌-◌, ◌<◌, ◌≤◌, List, [], ◌∷◌, ◌++◌, length, replicate, Some, slice_get, refl, sym, ap, ◌∙◌, arith, length-append}
use Rattle.std.proofs.lemmas.List.{length-replicate}

-- one empty row more
pad_count : (rows : List (List ℕ)) (n : ℕ) → (rows ++ [] ∷ []) ++ replicate n [] ≡ rows ++ replicate (suc n) []
pad_count [] n = refl
pad_count (row ∷ rows) n = ap (λ (t : List (List ℕ)). row ∷ t) (pad_count rows n)

pub pad_more : (rows after : List (List ℕ)) (row : List ℕ) (place : ℕ) → after ≡ rows ++ row ∷ [] → row ≡ [] → length rows < place → after ++ replicate (place - length after) [] ≡ rows ++ replicate (place - length rows) []
pad_more rows after row place is none low =
    let m = place - (length rows + 1) in
    let with : after ≡ rows ++ [] ∷ [] = is ∙ ap (λ (r : List ℕ). rows ++ r ∷ []) none in
    let fewer : place - length after ≡ m = omega (arith, ap length with, length-append rows ([] ∷ [])) in
    let one : suc m ≡ place - length rows = omega (arith, low) in
    ap (λ (t : List (List ℕ)). t ++ replicate (place - length after) []) with ∙ ap (λ k. (rows ++ [] ∷ []) ++ replicate k []) fewer ∙ pad_count rows m ∙ ap (λ k. rows ++ replicate k []) one

get_earlier : (rows more : List (List ℕ)) (p : ℕ) (row : List ℕ) → slice_get rows p ≡ Some row → slice_get (rows ++ more) p ≡ Some row
get_earlier [] more p row is = absurd cc
get_earlier (r ∷ rows) more zero row is = is
get_earlier (r ∷ rows) more (suc p) row is = get_earlier rows more p row is

get_last : (rows : List (List ℕ)) (row : List ℕ) → slice_get (rows ++ row ∷ []) (length rows) ≡ Some row
get_last [] row = refl
get_last (r ∷ rows) row = get_last rows row

-- with empty rows behind it, a row has so many places
padded : (rows : List (List ℕ)) (place : ℕ) → length rows ≤ place → length (rows ++ replicate (place - length rows) []) ≡ place
padded rows place low = omega (arith, low, length-append rows (replicate (place - length rows) []), length-replicate {A = List ℕ} (place - length rows) [])

-- what was put at its place
abbrev pub with_row : List (List ℕ) → ℕ → List ℕ → List (List ℕ)
with_row rows place row = (rows ++ replicate (place - length rows) []) ++ row ∷ []

pub with_row_length : (rows : List (List ℕ)) (place : ℕ) (row : List ℕ) → length rows ≤ place → length (with_row rows place row) ≡ place + 1
with_row_length rows place row low = omega (arith, length-append (rows ++ replicate (place - length rows) []) (row ∷ []), padded rows place low)

-- what stood there stands there
pub row_before : (rows : List (List ℕ)) (place p : ℕ) (row bytes : List ℕ) → slice_get rows p ≡ Some bytes → slice_get (with_row rows place row) p ≡ Some bytes
row_before rows place p row bytes is = get_earlier (rows ++ replicate (place - length rows) []) (row ∷ []) p bytes (get_earlier rows (replicate (place - length rows) []) p bytes is)

-- and so does what was put
pub row_at : (rows : List (List ℕ)) (place : ℕ) (row : List ℕ) → length rows ≤ place → slice_get (with_row rows place row) place ≡ Some row
row_at rows place row low = ap (slice_get (with_row rows place row)) (sym (padded rows place low)) ∙ get_last (rows ++ replicate (place - length rows) []) row
