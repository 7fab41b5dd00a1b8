-- The test that tells identifiers, and identifiers as text.
use Rattle.std.proofs.Common.{◌≡◌, ℕ, ◌≤◌, ◌<◌, Bool, true, ◌&&◌, ◌||◌, ◌==◌, List, [], ◌∷◌, length, refl, arith, inl, inr}
use Rattle.std.specs.Prelude.{All, Some, None, nat_le, ◌⊎◌, Decides, slice_index_or}
use Rattle.std.specs.Str.{IsUtf8}
use Rattle.std.specs.List.{list_all}
use Rattle.std.specs.Char.{is_ascii_alphabetic, is_ascii_digit}
use Rattle.std.specs.Int.{is_in_range}
use Rattle.std.proofs.lemmas.Str.{IsUtf8-from_ascii}
use Rattle.std.proofs.lemmas.Str.Ascii.{IsAscii-from_all}
use Rattle.std.proofs.lemmas.Bool.Decides.{Decides-and, Decides-or, Decides-eqb, Decides-like, Decides-by_and, nat_tests, same_from_decides}
use Rattle.std.proofs.lemmas.List.Elements.{All-cons}
use Rattle.path_tree.specs.Identifier.{IsLetter, IsWordByte, IsIdentifier}
use Rattle.word_core.specs.Identifier.{is_word_byte, is_identifier, identifier_of}
use Rattle.word_core.proofs.Choices.{none_some, choose}

le_decides : (a b : ℕ) → Decides (nat_le a b) (a ≤ b)
le_decides a b = (λ e. grind (arith, nat_tests), λ h. grind (arith, nat_tests))

range_decides : (lo hi b : ℕ) → Decides (is_in_range lo hi b) ((lo ≤ b) × (b ≤ hi))
range_decides lo hi b = Decides-and (nat_le lo b) (nat_le b hi) (le_decides lo b) (le_decides b hi)

other_way : {P Q : Type 0} → P ⊎ Q → Q ⊎ P
other_way (inl p) = inr p
other_way (inr q) = inl q

letter_decides : (b : ℕ) → Decides (is_ascii_alphabetic b) (IsLetter b)
letter_decides b = Decides-like (is_ascii_alphabetic b) other_way other_way (Decides-or (is_in_range 65 90 b) (is_in_range 97 122 b) (range_decides 65 90 b) (range_decides 97 122 b))

word_decides : (b : ℕ) → Decides (is_word_byte b) (IsWordByte b)
word_decides b = Decides-or (is_ascii_alphabetic b) (is_ascii_digit b || (b == 95)) (letter_decides b) (Decides-or (is_ascii_digit b) (b == 95) (range_decides 48 57 b) (Decides-eqb b 95))

words_decide : (bytes : List ℕ) → Decides (list_all is_word_byte bytes) (All IsWordByte bytes)
words_decide bytes = Decides-by_and is_word_byte IsWordByte (list_all is_word_byte) word_decides refl (λ _ _. refl) bytes

pub identifier_decides : (bytes : List ℕ) → Decides (is_identifier bytes) (IsIdentifier bytes)
identifier_decides [] = (λ e. cc, λ h. absurd h)
identifier_decides (b ∷ rest) =
    Decides-like (is_identifier (b ∷ rest)) (λ h. (h.0, h.1.0, h.1.1)) (λ h. (h.0, (h.1, h.2)))
    (Decides-and (is_ascii_alphabetic b) (list_all is_word_byte rest && nat_le (length rest) 63) (letter_decides b) (Decides-and (list_all is_word_byte rest) (nat_le (length rest) 63) (words_decide rest) (le_decides (length rest) 63)))

pub same_test : (bytes : List ℕ) (r : Bool) → Decides r (IsIdentifier bytes) → r ≡ is_identifier bytes
same_test bytes r decides = same_from_decides r (is_identifier bytes) decides (identifier_decides bytes)

low_letter : (b : ℕ) → IsLetter b → b < 128
low_letter b (inl lower) = omega (arith, lower.1)
low_letter b (inr upper) = omega (arith, upper.1)

low_byte : (b : ℕ) → IsWordByte b → b < 128
low_byte b (inl letter) = low_letter b letter
low_byte b (inr (inl digit)) = omega (arith, digit.1)
low_byte b (inr (inr line)) = omega (arith, line)

-- an identifier is text
text_is : (bytes : List ℕ) → IsIdentifier bytes → IsUtf8 bytes
text_is [] is = absurd is
text_is (b ∷ rest) is =
    IsUtf8-from_ascii (b ∷ rest) (IsAscii-from_all (b ∷ rest) (All-cons (λ x. x < 128) b rest (low_letter b is.0) (λ k d inside. low_byte (slice_index_or rest k d) (is.1 k d inside))))

pub identifier_text : (bytes : List ℕ) → is_identifier bytes ≡ true → IsUtf8 bytes
identifier_text bytes is = text_is bytes ((identifier_decides bytes).0 is)

pub identifier_found : (bytes name : List ℕ) → identifier_of bytes ≡ Some name → (bytes ≡ name) × IsIdentifier bytes
identifier_found bytes name is = elim (choose (is_identifier bytes) (Some bytes) None name is) [
  | inl found ↦ let same : bytes ≡ name = cc in (same, (identifier_decides bytes).0 found.0)
  | inr none ↦ absurd (none_some name none.1)
]

pub identifier_read : (name : List ℕ) → IsIdentifier name → identifier_of name ≡ Some name
identifier_read name is = rw ((identifier_decides name).1 is) refl
