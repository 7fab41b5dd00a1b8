-- Decimal numbers of 64 bits.
use Rattle.std.proofs.Common.{◌≡◌, inl, inr, ℕ, ◌<◌, ◌≤◌, ◌^◌, true, false, Bool, cond, List, length, refl, sym, arith}
use Rattle.std.specs.Prelude.{Option, Some, None, MatchOption, IfSome, decimal, nat_lt, ◌&&◌}
use Rattle.std.specs.Str.{all_ascii_digits}
use Rattle.std.specs.Str.Parse.{digits_value}
use Rattle.std.proofs.lemmas.Bool.{cases_lt, and_parts}
use Rattle.std.proofs.lemmas.Bool.Decides.{nat_tests}
use Rattle.std.proofs.lemmas.Fmt.{digits_decimal, digits_value-decimal, decimal_nonempty}
use Rattle.word_core.proofs.Numerals.{digits}
use Rattle.word_core.specs.Data.{integer_of, long_of}

pub long_of-decimal : (n : ℕ) → n < 2 ^ 64 → long_of (decimal n) ≡ Some n
long_of-decimal n small =
    let some : nat_lt 0 (length (decimal n)) ≡ true = let h = decimal_nonempty n small in grind (arith, nat_tests) in
    let are : all_ascii_digits (decimal n) ≡ true = digits_decimal digits n small in
    let value : digits_value 10 (decimal n) ≡ n = digits_value-decimal digits n small in
    let few : nat_lt n 18446744073709551616 ≡ true = let h : n < 18446744073709551616 = small in grind (arith, nat_tests) in
    rw (some, are, value, few) refl

pub no_digits : (ds : List ℕ) → all_ascii_digits ds ≡ false → long_of ds ≡ None
no_digits ds are = elim (cases_lt 0 (length ds)) [
  | inl some ↦ let s : nat_lt 0 (length ds) ≡ true = grind (arith, nat_tests) in rw (s, are) refl
  | inr none ↦ let s : nat_lt 0 (length ds) ≡ false = grind (arith, nat_tests) in rw s refl
]

pub no_bytes : (ds : List ℕ) → length ds ≡ 0 → long_of ds ≡ None
no_bytes ds none = let s : nat_lt 0 (length ds) ≡ false = grind (arith, nat_tests) in rw s refl

large : (ds : List ℕ) → 0 < length ds → all_ascii_digits ds ≡ true → 2 ^ 64 ≤ digits_value 10 ds → long_of ds ≡ None
large ds some are great =
    let s : nat_lt 0 (length ds) ≡ true = grind (arith, nat_tests) in
    let g : nat_lt (digits_value 10 ds) 18446744073709551616 ≡ false = let h : 18446744073709551616 ≤ digits_value 10 ds = great in grind (arith, nat_tests) in
    rw (s, are, g) refl

small_enough : (ds : List ℕ) (n : ℕ) → 0 < length ds → all_ascii_digits ds ≡ true → n ≡ digits_value 10 ds → n < 2 ^ 64 → long_of ds ≡ Some n
small_enough ds n some are value few =
    let s : nat_lt 0 (length ds) ≡ true = grind (arith, nat_tests) in
    let g : nat_lt (digits_value 10 ds) 18446744073709551616 ≡ true = let h : digits_value 10 ds < 18446744073709551616 = omega (arith, value, few) in grind (arith, nat_tests) in
    rw (s, are, g, ← value) refl

pub read_as : (ds : List ℕ) (found : Option ℕ) → 0 < length ds → all_ascii_digits ds ≡ true → IfSome found (λ n. n < 2 ^ 64) → MatchOption found (2 ^ 64 ≤ digits_value 10 ds) (λ n. n ≡ digits_value 10 ds) → found ≡ long_of ds
read_as ds None some are fits great = sym (large ds some are great)
read_as ds (Some n) some are fits value = sym (small_enough ds n some are value fits)

pub guard : {X : Type 0} (b : Bool) (v n : X) → cond b (Some v) None ≡ Some n → (b ≡ true) × (v ≡ n)
guard true v n is = (refl, cc)
guard false v n is = absurd cc

pub unless : {X : Type 0} (b : Bool) (v n : X) → cond b None (Some v) ≡ Some n → (b ≡ false) × (v ≡ n)
unless true v n is = absurd cc
unless false v n is = (refl, cc)

-- what is read has 64 bits
pub long_fits : (ds : List ℕ) (n : ℕ) → long_of ds ≡ Some n → n < 2 ^ 64
long_fits ds n is =
    let value = digits_value 10 ds in
    let few = nat_lt value 18446744073709551616 in
    let found = guard (nat_lt 0 (length ds) && (all_ascii_digits ds && few)) value n is in
    let inner = and_parts (nat_lt 0 (length ds)) (all_ascii_digits ds && few) found.0 in
    let small : few ≡ true = (and_parts (all_ascii_digits ds) few inner.1).1 in
    let same = found.1 in
    let less : value < 18446744073709551616 = grind (arith, nat_tests) in
    omega (arith, same, less)

-- and an integer has 32
pub integer_fits : (ds : List ℕ) (n : ℕ) → integer_of ds ≡ Some n → n < 2 ^ 32
integer_fits ds n is =
    let value = digits_value 10 ds in
    let few = nat_lt value 4294967296 in
    let found = guard (nat_lt 0 (length ds) && (all_ascii_digits ds && few)) value n is in
    let inner = and_parts (nat_lt 0 (length ds)) (all_ascii_digits ds && few) found.0 in
    let small : few ≡ true = (and_parts (all_ascii_digits ds) few inner.1).1 in
    let same = found.1 in
    let less : value < 4294967296 = grind (arith, nat_tests) in
    omega (arith, same, less)
