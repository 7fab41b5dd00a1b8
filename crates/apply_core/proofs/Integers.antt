-- Integers one behind the other take four bytes each, and any bytes are integers.
use Rattle.std.proofs.Common.{◌≡◌, ℕ, ◌+◌, ◌*◌, ◌<◌, ◌≤◌, ◌^◌, List, [], ◌++◌, ◌∷◌, drop, suc, zero, length, refl, sym, ap, ◌∙◌, arith, append_assoc, length-append}
use Rattle.std.specs.Int.{w32, from_be_bytes}
use Rattle.std.specs.Prelude.{All, get_or}
use Rattle.std.specs.List.{flat_map}
use Rattle.std.proofs.lemmas.List.Elements.{All-nil, All-cons}
use Rattle.std.proofs.lemmas.Nat.{be_bytes_4}
use Rattle.value_core.specs.declared.format.Format.TheVariants.{Second}
use Rattle.value_core.specs.declared.datum.Datum.{Datum}
use Rattle.value_core.specs.declared.datum.Datum.TheVariants as datum
use Rattle.value_core.specs.declared.kind.Elem.TheVariants as elem
use Rattle.value_core.specs.Datum.{IsElement}
use Rattle.value_bytes.specs.Spelling.{spelled_datum, SpellElements}
use Rattle.value_core.proofs.TableRows.{head, tail}
use Rattle.value_bytes.proofs.Apart.{fronts, other_sort}

-- an integer takes four bytes
four : (d : Datum) → IsElement elem.Integer d → length (spelled_datum d) ≡ 4
four (datum.Integer n) is = refl
four (datum.Text t) is = absurd (other_sort elem.Integer refl is.sort)

-- so many integers take four times as many bytes
integers_cut : (xs : List Datum) (count : ℕ) → All (IsElement elem.Integer) xs → count ≤ length xs
    → (front : List ℕ) × (length front ≡ count * 4) × (flat_map spelled_datum xs ≡ front ++ flat_map spelled_datum (drop count xs))
integers_cut xs zero each few = ([], refl, refl)
integers_cut [] (suc n) each few = absurd (omega (arith, few))
integers_cut (x ∷ xs) (suc n) each few =
    let next = integers_cut xs n (tail (IsElement elem.Integer) x xs each) (omega (arith, few)) in
    let long : length (spelled_datum x ++ next.0) ≡ length (spelled_datum x) + length next.0 = length-append (spelled_datum x) next.0 in
    let one : length (spelled_datum x) ≡ 4 = four x (head (IsElement elem.Integer) x xs each) in
    (spelled_datum x ++ next.0, omega (arith, long, one, next.1), ap (λ (r : List ℕ). spelled_datum x ++ r) next.2 ∙ sym (append_assoc (spelled_datum x) next.0 (flat_map spelled_datum (drop n xs))))

-- where so many integers stand, there are four bytes for each
pub enough_integers : (bytes : List ℕ) (xs : List Datum) (count : ℕ) → All (IsElement elem.Integer) xs → bytes ≡ flat_map spelled_datum xs → count ≤ length xs → length bytes < count * 4 → ⊥
enough_integers bytes xs count each spelled few short =
    let cut = integers_cut xs count each few in
    let long : length bytes ≡ length cut.0 + length (flat_map spelled_datum (drop count xs)) = ap length (spelled ∙ cut.2) ∙ length-append cut.0 (flat_map spelled_datum (drop count xs)) in
    omega (arith, long, cut.1, short)

-- they are cut off by their length
pub integers_behind : (bytes front rest : List ℕ) (xs : List Datum) (count : ℕ) → All (IsElement elem.Integer) xs → bytes ≡ flat_map spelled_datum xs → count ≤ length xs → bytes ≡ front ++ rest → length front ≡ count * 4 → rest ≡ flat_map spelled_datum (drop count xs)
integers_behind bytes front rest xs count each spelled few whole long =
    let cut = integers_cut xs count each few in
    (fronts front cut.0 rest (flat_map spelled_datum (drop count xs)) (long ∙ sym cut.1) (sym whole ∙ spelled ∙ cut.2)).1

-- all of them
integers_long : (xs : List Datum) → All (IsElement elem.Integer) xs → length (flat_map spelled_datum xs) ≡ length xs * 4
integers_long [] each = refl
integers_long (x ∷ xs) each =
    let more = integers_long xs (tail (IsElement elem.Integer) x xs each) in
    let long : length (spelled_datum x ++ flat_map spelled_datum xs) ≡ length (spelled_datum x) + length (flat_map spelled_datum xs) = length-append (spelled_datum x) (flat_map spelled_datum xs) in
    let one : length (spelled_datum x) ≡ 4 = four x (head (IsElement elem.Integer) x xs each) in
    omega (arith, long, one, more)

-- bytes of another length are not so many integers
pub no_integers : (bytes : List ℕ) (count : ℕ) → (length bytes ≡ count * 4 → ⊥) → (xs : List Datum) → SpellElements Second bytes elem.Integer count xs → ⊥
no_integers bytes count other xs is =
    other (ap length is.spelled ∙ integers_long xs is.each ∙ ap (λ n. n * 4) is.many)

-- what every byte is
abbrev pub AreBytes : List ℕ → Type 0
AreBytes bytes = (i : ℕ) → get_or bytes i 0 < 256

four_bytes : (a b c d : ℕ) (rest : List ℕ) → AreBytes (a ∷ b ∷ c ∷ d ∷ rest) → AreBytes (a ∷ b ∷ c ∷ d ∷ [])
four_bytes a b c d rest small zero = small 0
four_bytes a b c d rest small (suc zero) = small 1
four_bytes a b c d rest small (suc (suc zero)) = small 2
four_bytes a b c d rest small (suc (suc (suc zero))) = small 3
four_bytes a b c d rest small (suc (suc (suc (suc i)))) = omega arith

fits : (a b c d : ℕ) (rest : List ℕ) → AreBytes (a ∷ b ∷ c ∷ d ∷ rest) → from_be_bytes w32 (a ∷ b ∷ c ∷ d ∷ []) < 2 ^ 32
fits a b c d rest small =
    let one : a < 256 = small 0 in
    let two : b < 256 = small 1 in
    let three : c < 256 = small 2 in
    let last : d < 256 = small 3 in
    omega (arith, one, two, three, last)

-- each four bytes are an integer
pub are_integers : (count : ℕ) (bytes : List ℕ) → length bytes ≡ count * 4 → AreBytes bytes → (xs : List Datum) × SpellElements Second bytes elem.Integer count xs
are_integers zero [] long small = ([], record { each = All-nil (IsElement elem.Integer); many = refl; spelled = refl })
are_integers zero (a ∷ rest) long small = absurd (omega (arith, long))
are_integers (suc n) [] long small = absurd (omega (arith, long))
are_integers (suc n) (a ∷ []) long small = absurd (omega (arith, long))
are_integers (suc n) (a ∷ b ∷ []) long small = absurd (omega (arith, long))
are_integers (suc n) (a ∷ b ∷ c ∷ []) long small = absurd (omega (arith, long))
are_integers (suc n) (a ∷ b ∷ c ∷ d ∷ rest) long small =
    let number = from_be_bytes w32 (a ∷ b ∷ c ∷ d ∷ []) in
    let later = are_integers n rest (omega (arith, long)) (λ i. small (suc (suc (suc (suc i))))) in
    let here = be_bytes_4 (a ∷ b ∷ c ∷ d ∷ []) number refl (four_bytes a b c d rest small) refl in (
      datum.Integer number ∷ later.0,
      record {
        each = All-cons (IsElement elem.Integer) (datum.Integer number) later.0 (record { sort = refl; datum = fits a b c d rest small }) later.1.each;
        many = ap suc later.1.many;
        spelled = ap (λ (r : List ℕ). a ∷ b ∷ c ∷ d ∷ r) later.1.spelled ∙ ap (λ (front : List ℕ). front ++ flat_map spelled_datum later.0) (sym here);
      },
    )
