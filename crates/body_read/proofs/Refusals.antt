-- The words by which a body refuses, as they are read.
use Rattle.std.proofs.Common.{◌≡◌, ℕ, ◌≤◌, List, [], ◌∷◌, length, Bool, true, false, ◌&&◌, nat_le, Some, None, if◌then◌else◌, All, refl, arith}
use Rattle.std.proofs.lemmas.Bool.Decides.{nat_tests}
use Rattle.std.proofs.lemmas.List.Elements.{All-nil, All-cons, All-head, All-tail}
use Rattle.decl_core.specs.RefusalWord.{IsLower, IsRefusalWord}
use Rattle.body_read.specs.StatementReading.{all_lower, word_of_refusal}

lower_all : (bytes : List ℕ) → All IsLower bytes → all_lower bytes ≡ true
lower_all [] h = refl
lower_all (b ∷ bytes) h =
    let p = All-head IsLower b bytes h in
    let low : nat_le 97 b ≡ true = grind (arith, nat_tests, p.0) in
    let high : nat_le b 122 ≡ true = grind (arith, nat_tests, p.1) in
    rw (low, high) (lower_all bytes (All-tail IsLower b bytes h))

three : (a b c : Bool) → (a && b && c) ≡ true → (a ≡ true) × (b ≡ true) × (c ≡ true)
three true true true h = (refl, refl, refl)
three true true false h = absurd cc
three true false c h = absurd cc
three false b c h = absurd cc

all_lower_is : (bytes : List ℕ) → all_lower bytes ≡ true → All IsLower bytes
all_lower_is [] h = All-nil IsLower
all_lower_is (b ∷ bytes) h =
    let p = three (nat_le 97 b) (nat_le b 122) (all_lower bytes) h in
    let low : 97 ≤ b = grind (arith, nat_tests, p.0) in
    let high : b ≤ 122 = grind (arith, nat_tests, p.1) in
    All-cons IsLower b bytes (low, high) (all_lower_is bytes p.2)

pub word_some : (bytes : List ℕ) → IsRefusalWord bytes → word_of_refusal bytes ≡ Some bytes
word_some bytes h =
    let some : nat_le 1 (length bytes) ≡ true = grind (arith, nat_tests, h.some) in
    let few : nat_le (length bytes) 16 ≡ true = grind (arith, nat_tests, h.few) in
    rw (some, few, lower_all bytes h.lower) refl

none_by : (a b c : Bool) (bytes : List ℕ) → ((a ≡ true) → (b ≡ true) → (c ≡ true) → ⊥) → (if a && b && c then Some bytes else None) ≡ None
none_by true true true bytes h = absurd (h refl refl refl)
none_by true true false bytes h = refl
none_by true false c bytes h = refl
none_by false b c bytes h = refl

pub word_none : (bytes : List ℕ) → (IsRefusalWord bytes → ⊥) → word_of_refusal bytes ≡ None
word_none bytes never =
    none_by (nat_le 1 (length bytes)) (nat_le (length bytes) 16) (all_lower bytes) bytes (λ some few lower. never (record { some = grind (arith, nat_tests, some); few = grind (arith, nat_tests, few); lower = all_lower_is bytes lower }))

kept_by : (a b c : Bool) (bytes word : List ℕ) → (if a && b && c then Some bytes else None) ≡ Some word → (a ≡ true) × (b ≡ true) × (c ≡ true) × (word ≡ bytes)
kept_by true true true bytes word h = (refl, refl, refl, cc)
kept_by true true false bytes word h = absurd cc
kept_by true false c bytes word h = absurd cc
kept_by false b c bytes word h = absurd cc

pub word_found : (bytes word : List ℕ) → word_of_refusal bytes ≡ Some word → IsRefusalWord bytes × (word ≡ bytes)
word_found bytes word h =
    let k = kept_by (nat_le 1 (length bytes)) (nat_le (length bytes) 16) (all_lower bytes) bytes word h in
    (record { some = grind (arith, nat_tests, k.0); few = grind (arith, nat_tests, k.1); lower = all_lower_is bytes k.2 }, k.3)
