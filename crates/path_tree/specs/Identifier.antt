-- Identifiers, and the names that they spell.
use Rattle.std.specs.Prelude.{◌≡◌, ℕ, ◌≤◌, ◌⊎◌, List, [], ◌∷◌, length, All}

abbrev pub IsLowerLetter : ℕ → Type 0
IsLowerLetter b = (97 ≤ b) × (b ≤ 122)

abbrev pub IsUpperLetter : ℕ → Type 0
IsUpperLetter b = (65 ≤ b) × (b ≤ 90)

abbrev pub IsDigit : ℕ → Type 0
IsDigit b = (48 ≤ b) × (b ≤ 57)

-- a byte that an identifier may begin with
abbrev pub IsLetter : ℕ → Type 0
IsLetter b = IsLowerLetter b ⊎ IsUpperLetter b

-- a byte that an identifier may go on with: a letter, a digit or an underscore
abbrev pub IsWordByte : ℕ → Type 0
IsWordByte b = IsLetter b ⊎ (IsDigit b ⊎ (b ≡ 95))

-- a letter, and then letters, digits and underscores, at most 64 bytes in all
abbrev pub IsIdentifier : List ℕ → Type 0
IsIdentifier [] = ⊥
IsIdentifier (first ∷ rest) = IsLetter first × All IsWordByte rest × (length rest ≤ 63)

-- an identifier without capital letters
abbrev pub IsName : List ℕ → Type 0
IsName bytes = IsIdentifier bytes × All (λ b. IsUpperLetter b → ⊥) bytes
