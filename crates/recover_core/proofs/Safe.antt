-- What is written of held calls stands on one line.
use Rattle.std.proofs.Common.{◌≡◌, ℕ, zero, suc, ◌<◌, ◌^◌, true, List, [], ◌∷◌, length, arith, inl, inr, map, false}
use Rattle.std.specs.Prelude.{All, decimal, nat_lt, ◌&&◌, ◌==◌, Bool, slice_index_or}
use Rattle.std.specs.List.{list_all}
use Rattle.std.proofs.lemmas.Bool.{and_parts}
use Rattle.std.proofs.lemmas.Bool.Decides.{nat_tests}
use Rattle.std.proofs.lemmas.List.Sums.{AllPass-from_list_all}
use Rattle.std.proofs.lemmas.List.Elements.{All-cons, All-nil, All-head, All-tail, All-from_get_or}
use Rattle.std.proofs.lemmas.Str.Parse.{digit_at}
use Rattle.std.proofs.lemmas.Fmt.{digits_decimal, decimal_nonempty}
use Rattle.value_core.specs.declared.datum.Datum.{Datum}
use Rattle.value_core.specs.declared.datum.Datum.TheVariants.{Integer, Text}
use Rattle.value_core.specs.Datum.{IsDatum}
use Rattle.path_tree.specs.Identifier.{IsName, IsLetter, IsWordByte}
use Rattle.decl_core.specs.ObjectForm.{OperationForm, ObjectForm}
use Rattle.word_core.specs.Words.{Word, words_text}
use Rattle.word_core.specs.Data.{datum_word, session_word}
use Rattle.word_core.proofs.Numerals.{digits}
use Rattle.word_core.specs.TraceLaws.{HasNames}
use Rattle.value_core.specs.Plain.{IsPlain}
use Rattle.value_core.specs.Runs.{NoLineFeed}
use Rattle.word_core.proofs.Plain.{IsSafeByte, IsSafe, IsSafeWord, EachSafe, words_plain}
use Rattle.live_core.specs.Front.{Every, IsOperation}
use Rattle.live_core.specs.Text.{call_words}

pub all_of : {X : Type 0} (P : X → Type 0) (xs : List X) → Every P xs → All P xs
all_of P [] each = All-nil P
all_of P (x ∷ xs) each = All-cons P x xs each.0 (all_of P xs each.1)

abbrev is_safe : ℕ → Bool
is_safe b = nat_lt 39 b && nat_lt b 127

safe_byte : (b : ℕ) → is_safe b ≡ true → IsSafeByte b
safe_byte b passes = let parts = and_parts (nat_lt 39 b) (nat_lt b 127) passes in let low = parts.0 in let high = parts.1 in (grind (arith, nat_tests), grind (arith, nat_tests))

pub known : (bytes : List ℕ) → list_all is_safe bytes ≡ true → nat_lt 0 (length bytes) ≡ true → IsSafe bytes
known bytes pass some = record { some = grind (arith, nat_tests); each = λ k d inside. safe_byte _ (AllPass-from_list_all is_safe bytes pass k d inside) }

letter_safe : (b : ℕ) → IsLetter b → IsSafeByte b
letter_safe b (inl lower) = (omega (arith, lower.0), omega (arith, lower.1))
letter_safe b (inr upper) = (omega (arith, upper.0), omega (arith, upper.1))

name_byte : (b : ℕ) → IsWordByte b → IsSafeByte b
name_byte b (inl letter) = letter_safe b letter
name_byte b (inr (inl digit)) = (omega (arith, digit.0), omega (arith, digit.1))
name_byte b (inr (inr same)) = (omega (arith, same), omega (arith, same))

pub name_safe : (bytes : List ℕ) → IsName bytes → IsSafe bytes
name_safe [] is = absurd is.0
name_safe (b ∷ bytes) is = record { some = omega arith; each = All-cons IsSafeByte b bytes (letter_safe b is.0.0) (λ k d inside. name_byte _ (is.0.1 k d inside)) }

pub decimal_safe : (n : ℕ) → n < 2 ^ 64 → IsSafe (decimal n)
decimal_safe n small =
    record {
      some = decimal_nonempty n small;
      each = All-from_get_or IsSafeByte (decimal n) 0 (λ i within. let h = digit_at (decimal n) i (digits.to (decimal n) (digits_decimal digits n small)) within in (omega (arith, h), omega (arith, h)));
    }

pub behind_letter : (b : ℕ) (bytes : List ℕ) → IsSafeByte b → IsSafe bytes → IsSafe (b ∷ bytes)
behind_letter b bytes is safe = record { some = omega arith; each = All-cons IsSafeByte b bytes is safe.each }

datum_safe : (datum : Datum) → IsDatum datum → IsSafeWord (datum_word datum)
datum_safe (Integer n) is = decimal_safe n (omega (arith, is))
datum_safe (Text text) is = is

pub data_safe : (elements : List Datum) → All IsDatum elements → EachSafe (map datum_word elements)
data_safe [] each = tt
data_safe (datum ∷ elements) each = (datum_safe datum (All-head IsDatum datum elements each), data_safe elements (All-tail IsDatum datum elements each))

pub operation_safe : (operations : List OperationForm) (place : ℕ) → All (λ f. IsName f.name) operations → place < length operations → IsSafe (slice_index_or (map (λ f. f.name) operations) place [])
operation_safe [] place names within = absurd (omega arith)
operation_safe (x ∷ operations) zero names within = name_safe x.name (All-head (λ f. IsName f.name) x operations names)
operation_safe (x ∷ operations) (suc place) names within = operation_safe operations place (All-tail (λ f. IsName f.name) x operations names) (omega arith)

pub session_safe : (n : ℕ) → n < 2 ^ 64 → IsSafeWord (session_word n)
session_safe n small = behind_letter 115 (decimal n) (omega arith, omega arith) (decimal_safe n small)

pub named_safe : (o : ObjectForm) (op : ℕ) (values : List Datum) → HasNames o → IsOperation o op → Every IsDatum values → EachSafe (call_words o op values)
named_safe o op values named is each = (operation_safe o.operations op named.operations is.there, data_safe values (all_of IsDatum values each))

-- no line ends in what such words are written as
other : (b c : ℕ) → IsPlain b → c < 32 → (b == c) ≡ false
other b c is low = let h = is.0 in grind (arith, nat_tests)

pub no_feed : (ws : List Word) → EachSafe ws → NoLineFeed (words_text ws)
no_feed ws safe = let plain = words_plain ws safe in λ k d inside. other _ 10 (plain k d inside) (omega arith)
