-- Identifiers and names in lower case.
use Rattle.std.proofs.Common.{◌≡◌, ℕ, ◌≤◌, inl, inr, List, [], ◌∷◌, map, slice_index_or, refl, suc, sym, ap, ◌∙◌, subst, arith}
use Rattle.std.proofs.lemmas.List.{length-map}
use Rattle.std.proofs.lemmas.Bool.Decides.{nat_tests}
use Rattle.std.specs.Prelude.{All}
use Rattle.std.specs.Char.{to_ascii_lowercase}
use Rattle.std.proofs.lemmas.List.Elements.{All-map}
use Rattle.path_tree.specs.Identifier.{IsLowerLetter, IsUpperLetter, IsLetter, IsWordByte, IsIdentifier, IsName}

-- a letter in lower case
pub lower_letter : (b : ℕ) → IsLetter b → IsLowerLetter (to_ascii_lowercase b)
lower_letter b (inl h) = grind (arith, nat_tests)
lower_letter b (inr h) = grind (arith, nat_tests)

-- what is no capital letter is its own lower case
pub lower_same : (b : ℕ) → (IsUpperLetter b → ⊥) → to_ascii_lowercase b ≡ b
lower_same b h = grind (arith, nat_tests)

-- no capital letter is left
pub lower_not_upper : (b : ℕ) → IsUpperLetter (to_ascii_lowercase b) → ⊥
lower_not_upper b h = grind (arith, nat_tests)

pub lower_word_byte : (b : ℕ) → IsWordByte b → IsWordByte (to_ascii_lowercase b)
lower_word_byte b (inl h) = inl (inl (lower_letter b h))
lower_word_byte b (inr (inl h)) = inr (inl (grind (arith, nat_tests)))
lower_word_byte b (inr (inr h)) = inr (inr (grind (arith, nat_tests)))

-- no byte of a text in lower case is a capital letter
pub lower_all : (bytes : List ℕ) → All (λ b. IsUpperLetter b → ⊥) (map to_ascii_lowercase bytes)
lower_all bytes = All-map (λ b. IsUpperLetter b → ⊥) to_ascii_lowercase bytes (λ k d h. lower_not_upper (slice_index_or bytes k d))

-- an identifier in lower case is a name
pub lower_name : (bytes : List ℕ) → IsIdentifier bytes → IsName (map to_ascii_lowercase bytes)
lower_name [] h = absurd h
lower_name (first ∷ rest) h = (
  (
    inl (lower_letter first h.0),
    All-map IsWordByte to_ascii_lowercase rest (λ k d within. lower_word_byte (slice_index_or rest k d) (h.1 k d within)),
    subst (λ n. n ≤ 63) (sym (length-map rest to_ascii_lowercase)) h.2,
  ),
  lower_all (first ∷ rest),
)

-- what has no capital letter is in lower case
pub name_lower : (bytes : List ℕ) → All (λ b. IsUpperLetter b → ⊥) bytes → map to_ascii_lowercase bytes ≡ bytes
name_lower [] h = refl
name_lower (b ∷ bytes) h = ap (λ x. x ∷ map to_ascii_lowercase bytes) (lower_same b (h 0 0 (omega arith))) ∙ ap (λ x. b ∷ x) (name_lower bytes (λ k d within. h (suc k) d (omega arith)))
