-- Words and numbers as slices.
use Rattle.std.proofs.Common.{◌≡◌, ℕ, ◌+◌, ◌-◌, ◌*◌, ◌≤◌, List, [], ◌∷◌, ◌++◌, take, drop, refl, sym, ap, subst, arith, take-append-drop}
use Rattle.std.specs.Prelude.{slice_range}
use Rattle.std.specs.Char.{digit_value}
use Rattle.std.specs.Str.Parse.{digits_value, digits_value_after}
use Rattle.std.proofs.lemmas.Bool.Decides.{nat_tests}
use Rattle.path_tree.specs.Identifier.{IsDigit, IsWordByte, IsIdentifier}
use Rattle.path_tree.specs.Tokens.{IsWord}
use Rattle.path_tree.proofs.Slices.{length_slice, slice_more, slice_all}

-- the slice of a word is an identifier
pub word_identifier : (source : List ℕ) (from to : ℕ) → IsWord source from to → IsIdentifier (slice_range source from to)
word_identifier source from to h =
    let run = h.1 in
    let n = length_slice source (from + 1) to run.1 in
    subst IsIdentifier (sym (slice_more source from to run.0 run.1))
    (h.0, slice_all IsWordByte source (from + 1) to run.1 (λ k low high. run.2 k (omega arith) high), omega (arith, h.2))

-- more digits make no less
value_grows : (n : ℕ) (digits : List ℕ) → n ≤ digits_value_after 10 n digits
value_grows n [] = omega arith
value_grows n (d ∷ digits) = omega (arith, value_grows (n * 10 + digit_value d) digits)

value_append : (n : ℕ) (front back : List ℕ) → digits_value_after 10 n (front ++ back) ≡ digits_value_after 10 (digits_value_after 10 n front) back
value_append n [] back = refl
value_append n (d ∷ front) back = value_append (n * 10 + digit_value d) front back

pub value_of_front : (digits : List ℕ) (i : ℕ) → digits_value 10 (take i digits) ≤ digits_value 10 digits
value_of_front digits i =
    omega (arith, value_grows (digits_value 10 (take i digits)) (drop i digits), value_append 0 (take i digits) (drop i digits), ap (digits_value 10) (take-append-drop i digits))

pub digit_is : (b : ℕ) → IsDigit b → digit_value b ≡ b - 48
digit_is b h = grind (arith, nat_tests)
