-- The words by which a body refuses.
use Rattle.std.specs.Prelude.{ℕ, ◌≤◌, List, length, All}

-- a lower-case letter
abbrev pub IsLower : ℕ → Type 0
IsLower b = (97 ≤ b) × (b ≤ 122)

-- 1 to 16 lower-case letters
pub record IsRefusalWord (bytes : List ℕ) : Type 0 where
  pub some : 1 ≤ length bytes
  pub few : length bytes ≤ 16
  pub lower : All IsLower bytes
