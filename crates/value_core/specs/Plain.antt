-- Which bytes are a text.
use Rattle.std.specs.Prelude.{ℕ, ◌≤◌, List, length, All}
use Rattle.value_core.specs.Limits.{most_text_bytes}

-- a byte that a text may have
abbrev pub IsPlain : ℕ → Type 0
IsPlain b = (32 ≤ b) × (b ≤ 126)

-- at most so many bytes from 32 to 126
pub record IsTextUpTo (most : ℕ) (bytes : List ℕ) : Type 0 where
  pub few : length bytes ≤ most
  pub plain : All IsPlain bytes

-- at most 1,000 bytes from 32 to 126
abbrev pub IsText : List ℕ → Type 0
IsText = IsTextUpTo most_text_bytes
