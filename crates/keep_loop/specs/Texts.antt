-- Texts.
use Rattle.std.specs.Prelude.{◌≡◌, ℕ, false, List, [], ◌∷◌, ◌++◌, All, if◌then◌else◌, ◌==◌, Option, Some, None, slice_get}
use Rattle.keep_loop.specs.declared.post.OwedText.{OwedText}

-- no byte is an LF
abbrev pub NoLineFeed : List ℕ → Type 0
NoLineFeed bytes = All (λ b. (b == 10) ≡ false) bytes

abbrev pub bytes_of : Option OwedText → List ℕ
bytes_of None = []
bytes_of (Some text) = text.bytes.items

-- the text at this place
abbrev pub text_at : List OwedText → ℕ → List ℕ
text_at texts j = bytes_of (slice_get texts j)

-- text begins with front
abbrev pub Begins : List ℕ → List ℕ → Type 0
Begins front text = (rest : List ℕ) × (text ≡ front ++ rest)

-- what of a list of texts, each with the number that it is for, is for this one
abbrev pub to : ℕ → List (ℕ × List ℕ) → List ℕ
to c [] = []
to c (s ∷ said) = (if s.0 == c then s.1 else []) ++ to c said
