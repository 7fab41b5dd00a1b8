-- The rows of a table of remainders.
use Rattle.std.proofs.Common.{◌≡◌, ◌<◌, ℕ, zero, suc, ◌+◌, List, [], ◌∷◌, ◌++◌, length, drop, get_or, ◌/◌, ◌%◌, ◌≤◌, refl, sym, ◌∙◌, ap, arith}
use Rattle.std.specs.Prelude.{bit_xor}
use Rattle.std.proofs.lemmas.List.{drop_all, drop_more}
use Rattle.keep_loop.specs.Crc.{crc_row, crc_rows, crc_more}

pub rows_length : (count byte : ℕ) → length (crc_rows count byte) ≡ count
rows_length zero byte = refl
rows_length (suc count) byte = omega (arith, rows_length count (byte + 1))

pub rows_at : (count from at default : ℕ) → at < count → get_or (crc_rows count from) at default ≡ crc_row (from + at)
rows_at zero from at default inside = absurd (omega (arith, inside))
rows_at (suc count) from zero default inside = let here : from ≡ from + 0 = omega arith in ap crc_row here
rows_at (suc count) from (suc at) default inside =
    let on : from + 1 + at ≡ from + suc at = omega arith in rows_at count (from + 1) at default (omega (arith, inside)) ∙ ap crc_row on

rows_last : (count from : ℕ) → crc_rows (suc count) from ≡ crc_rows count from ++ crc_row (from + count) ∷ []
rows_last zero from = let here : from ≡ from + 0 = omega arith in ap (λ (n : ℕ). crc_row n ∷ []) here
rows_last (suc count) from = let on : from + 1 + count ≡ from + suc count = omega arith in ap (λ (l : List ℕ). crc_row from ∷ l) (rows_last count (from + 1) ∙ ap (λ (n : ℕ). crc_rows count (from + 1) ++ crc_row n ∷ []) on)

-- one more
pub rows_more : (count : ℕ) → crc_rows count 0 ++ crc_row count ∷ [] ≡ crc_rows (count + 1) 0
rows_more count =
    let here : 0 + count ≡ count = omega arith in
    let next : suc count ≡ count + 1 = omega arith in
    sym (rows_last count 0 ∙ ap (λ (n : ℕ). crc_rows count 0 ++ crc_row n ∷ []) here) ∙ ap (λ (n : ℕ). crc_rows n 0) next

-- the number of a byte more
pub crc_on : (crc : ℕ) (bytes : List ℕ) (i row : ℕ) → i < length bytes → row ≡ crc_row (bit_xor crc (get_or bytes i 0) % 256) → crc_more (bit_xor row (crc / 256)) (drop (i + 1) bytes) ≡ crc_more crc (drop i bytes)
crc_on crc bytes i row inside is =
    ap (λ (n : ℕ). crc_more (bit_xor n (crc / 256)) (drop (i + 1) bytes)) is ∙ ap (λ (l : List ℕ). crc_more crc l) (sym (drop_more bytes i 0 inside))

pub crc_all : (crc : ℕ) (bytes : List ℕ) (i : ℕ) → length bytes ≤ i → crc_more crc (drop i bytes) ≡ crc
crc_all crc bytes i past = ap (λ (l : List ℕ). crc_more crc l) (drop_all i bytes past)

-- what a row of the table is
pub row_is : (rows : List ℕ) (at default : ℕ) → rows ≡ crc_rows 256 0 → at < 256 → get_or rows at default ≡ crc_row at
row_is rows at default are inside = let here : 0 + at ≡ at = omega arith in ap (λ (l : List ℕ). get_or l at default) are ∙ rows_at 256 0 at default inside ∙ ap crc_row here
