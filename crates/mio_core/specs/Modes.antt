-- Modes of files and folders.
use Rattle.std.specs.Prelude.{◌≡◌, ℕ, bit_and}

-- what a mode gives to its owner
abbrev pub owners : ℕ → ℕ
owners mode = bit_and mode 0o700

-- a mode by which nobody but its owner reads a folder or enters it
abbrev pub IsOwners : ℕ → Type 0
IsOwners mode = bit_and mode 0o055 ≡ 0
