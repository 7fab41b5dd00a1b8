-- One digit more, and beginnings of texts.
use Rattle.std.proofs.Common.{◌≡◌, ◌≢◌, ℕ, zero, suc, ◌+◌, ◌-◌, ◌/◌, ◌%◌, ◌^◌, ◌<◌, ◌≤◌, List, [], ◌∷◌, ◌++◌, length, refl, sym, ◌∙◌, ap, arith, append_assoc}
use Rattle.std.specs.Prelude.{Bool, false, decimal}
use Rattle.std.proofs.lemmas.Fmt.{decimal_step, decimal_digit}
use Rattle.keep_loop.specs.Taken.{begins_with, check_line, hex_digit, hex_digits}

pub decimal_one : (old : List ℕ) (n : ℕ) → n < 10 → old ++ (48 + n) ∷ [] ≡ old ++ decimal n
decimal_one old n small = ap (λ (l : List ℕ). old ++ l) (sym (decimal_digit n small))

pub decimal_more : (old : List ℕ) (n : ℕ) → 10 ≤ n → n < 2 ^ 64 → (old ++ decimal (n / 10)) ++ (48 + n % 10) ∷ [] ≡ old ++ decimal n
decimal_more old n big small = append_assoc old (decimal (n / 10)) ((48 + n % 10) ∷ []) ∙ ap (λ (l : List ℕ). old ++ l) (sym (decimal_step n big small))

pub hex_more : (old : List ℕ) (places n : ℕ) → places ≢ 0 → (old ++ hex_digits (places - 1) (n / 16)) ++ hex_digit (n % 16) ∷ [] ≡ old ++ hex_digits places n
hex_more old zero n some = absurd (some refl)
hex_more old (suc places) n some =
    let less : suc places - 1 ≡ places = omega arith in
    append_assoc old (hex_digits (suc places - 1) (n / 16)) (hex_digit (n % 16) ∷ []) ∙ ap (λ (k : ℕ). old ++ (hex_digits k (n / 16) ++ hex_digit (n % 16) ∷ [])) less

pub check_joined : (out word : List ℕ) (size crc : ℕ) → ((((out ++ word) ++ decimal size) ++ 32 ∷ []) ++ hex_digits 8 crc) ++ 10 ∷ [] ≡ out ++ check_line word size crc
unfolding check_line
check_joined out word size crc =
    append_assoc (((out ++ word) ++ decimal size) ++ 32 ∷ []) (hex_digits 8 crc) (10 ∷ []) ∙ append_assoc ((out ++ word) ++ decimal size) (32 ∷ []) (hex_digits 8 crc ++ 10 ∷ [])
    ∙ ap (λ (l : List ℕ). l ++ 32 ∷ (hex_digits 8 crc ++ 10 ∷ [])) (append_assoc out word (decimal size)) ∙ append_assoc out (word ++ decimal size) (32 ∷ (hex_digits 8 crc ++ 10 ∷ []))

pub begins_none : (word text : List ℕ) → 1 ≤ length word → length text ≡ 0 → false ≡ begins_with word text
begins_none [] text some none = absurd (omega (arith, some))
begins_none (w ∷ word) [] some none = refl
begins_none (w ∷ word) (byte ∷ text) some none = absurd (omega (arith, none))
