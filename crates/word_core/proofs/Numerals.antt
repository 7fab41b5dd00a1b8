-- Decimal numbers.
use Rattle.std.proofs.Common.{◌≡◌, ◌≢◌, inl, inr, ℕ, ◌-◌, ◌<◌, ◌≤◌, ◌^◌, true, false, List, [], ◌∷◌, length, refl, sym, ap, arith, take}
use Rattle.std.specs.Prelude.{All, Option, Some, None, MatchOption, IfSome, decimal, nat_lt, ◌&&◌, slice_index}
use Rattle.std.specs.List.{list_all}
use Rattle.std.specs.Str.{all_ascii_digits}
use Rattle.std.specs.Str.Parse.{digits_value}
use Rattle.std.specs.Char.{digit_value, is_ascii_digit}
use Rattle.std.proofs.lemmas.Bool.{cases_lt}
use Rattle.std.proofs.lemmas.Bool.Decides.{nat_tests}
use Rattle.std.proofs.lemmas.Str.Parse.{IsNumeralModel, numerals_by_value, tells_all_ascii_digits, digits_value-take-le, not_in_digits, digit_at}
use Rattle.std.proofs.lemmas.Fmt.{digits_decimal, digits_value-decimal, decimal_nonempty}
use Rattle.std.proofs.lemmas.List.Elements.{All-from_get_or}
use Rattle.value_core.specs.Spaces.{NoSpace}
use Rattle.word_core.specs.Words.{IsWord, bare}
use Rattle.word_core.specs.Data.{integer_of}

pub digits : IsNumeralModel (λ ds. all_ascii_digits ds ≡ true) (digits_value 10)
digits = numerals_by_value (λ ds. all_ascii_digits ds ≡ true) tells_all_ascii_digits

-- digits are none of the other bytes
pub digits_apart : (ds : List ℕ) (other : ℕ) → all_ascii_digits ds ≡ true → other < 48 → All (λ b. b ≢ other) ds
digits_apart ds other are low = All-from_get_or (λ b. b ≢ other) ds 0 (λ i within. not_in_digits digits ds other are (λ h. absurd (omega arith)) i within)

digits_clear : (ds : List ℕ) → all_ascii_digits ds ≡ true → NoSpace ds
digits_clear ds are = digits_apart ds 32 are (omega arith)

bare_digits : (ds : List ℕ) → all_ascii_digits ds ≡ true → 0 < length ds → IsWord (bare ds)
bare_digits [] are some = absurd (omega arith)
bare_digits (d ∷ ds) are some = (not_in_digits digits (d ∷ ds) 39 are (λ h. absurd (omega arith)) 0 (omega arith), digits_clear (d ∷ ds) are)

pub decimal_is_word : (n : ℕ) → n < 2 ^ 64 → IsWord (bare (decimal n))
decimal_is_word n small = bare_digits (decimal n) (digits_decimal digits n small) (decimal_nonempty n small)

pub integer_of-decimal : (n : ℕ) → n < 2 ^ 32 → integer_of (decimal n) ≡ Some n
integer_of-decimal n small =
    let some : nat_lt 0 (length (decimal n)) ≡ true = let h = decimal_nonempty n (omega arith) in grind (arith, nat_tests) in
    let are : all_ascii_digits (decimal n) ≡ true = digits_decimal digits n (omega arith) in
    let value : digits_value 10 (decimal n) ≡ n = digits_value-decimal digits n (omega arith) in
    let few : nat_lt n 4294967296 ≡ true = grind (arith, nat_tests) in
    rw (some, are, value, few) refl

-- the value of the first digits is no greater
pub value_of_front : (ds : List ℕ) (i : ℕ) → digits_value 10 (take i ds) ≤ digits_value 10 ds
value_of_front ds i = digits_value-take-le 10 ds i (omega arith)

pub digit_within : (ds : List ℕ) (i : ℕ) → all_ascii_digits ds ≡ true → i < length ds → (48 ≤ slice_index ds i) × (slice_index ds i ≤ 57)
digit_within ds i are inside = let h = digit_at ds i (digits.to ds are) inside in (omega (arith, h), omega (arith, h))

digit_of : (b : ℕ) → 48 ≤ b → b ≤ 57 → digit_value b ≡ b - 48
digit_of b low high = grind (arith, nat_tests)

pub digit_is : (ds : List ℕ) (i : ℕ) → all_ascii_digits ds ≡ true → i < length ds → digit_value (slice_index ds i) ≡ slice_index ds i - 48
digit_is ds i are inside = let h = digit_within ds i are inside in digit_of (slice_index ds i) h.0 h.1

-- what is no integer
pub no_digits : (ds : List ℕ) → all_ascii_digits ds ≡ false → integer_of ds ≡ None
no_digits ds are = elim (cases_lt 0 (length ds)) [
  | inl some ↦ let s : nat_lt 0 (length ds) ≡ true = grind (arith, nat_tests) in rw (s, are) refl
  | inr none ↦ let s : nat_lt 0 (length ds) ≡ false = grind (arith, nat_tests) in rw s refl
]

pub no_bytes : (ds : List ℕ) → length ds ≡ 0 → integer_of ds ≡ None
no_bytes ds none = let s : nat_lt 0 (length ds) ≡ false = grind (arith, nat_tests) in rw s refl

-- what is one, where its value is not too great
pub large : (ds : List ℕ) → 0 < length ds → all_ascii_digits ds ≡ true → 4294967295 < digits_value 10 ds → integer_of ds ≡ None
large ds some are great =
    let s : nat_lt 0 (length ds) ≡ true = grind (arith, nat_tests) in
    let g : nat_lt (digits_value 10 ds) 4294967296 ≡ false = grind (arith, nat_tests) in
    rw (s, are, g) refl

pub small_enough : (ds : List ℕ) (n : ℕ) → 0 < length ds → all_ascii_digits ds ≡ true → n ≡ digits_value 10 ds → n < 2 ^ 32 → integer_of ds ≡ Some n
small_enough ds n some are value few =
    let s : nat_lt 0 (length ds) ≡ true = grind (arith, nat_tests) in
    let g : nat_lt (digits_value 10 ds) 4294967296 ≡ true = let h : digits_value 10 ds < 4294967296 = omega arith in grind (arith, nat_tests) in
    rw (s, are, g, ← value) refl

-- two ways to say that bytes are digits
pub same_test : (ds : List ℕ) → list_all is_ascii_digit ds ≡ all_ascii_digits ds
same_test [] = refl
same_test (d ∷ ds) = ap (λ b. is_ascii_digit d && b) (same_test ds)

pub read_as : (ds : List ℕ) (found : Option ℕ) → 0 < length ds → all_ascii_digits ds ≡ true → IfSome found (λ n. n < 2 ^ 32) → MatchOption found (4294967295 < digits_value 10 ds) (λ n. n ≡ digits_value 10 ds) → found ≡ integer_of ds
read_as ds None some are fits great = sym (large ds some are great)
read_as ds (Some n) some are fits value = sym (small_enough ds n some are value fits)
