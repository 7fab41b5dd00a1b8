-- Spaces between words.
use Rattle.std.specs.Prelude.{◌≡◌, ◌≢◌, ℕ, ◌==◌, List, [], ◌∷◌, All, if◌then◌else◌}

-- a line without the spaces before its first word
abbrev pub drop_spaces : List ℕ → List ℕ
drop_spaces [] = []
drop_spaces (b ∷ line) = if b == 32 then drop_spaces line else b ∷ line

-- no byte is a space
abbrev pub NoSpace : List ℕ → Type 0
NoSpace bytes = All (λ b. b ≢ 32) bytes

-- behind a word stands a space or nothing
abbrev pub EndsWord : List ℕ → Type 0
EndsWord [] = Unit {0}
EndsWord (b ∷ rest) = b ≡ 32
