-- The layouts of the bytes of a value.
use Rattle.std.specs.Prelude.{ℕ, List, [], ◌∷◌}
use Rattle.std.specs.Int.{w16, to_be_bytes}
use Rattle.value_core.specs.declared.format.Format.{Format}
use Rattle.value_core.specs.declared.format.Format.TheVariants.{First, Second}

-- its first byte
abbrev pub number_of : Format → ℕ
number_of First = 1
number_of Second = 2

-- the length of a text is one byte, or two, the highest first
abbrev pub spelled_length : Format → ℕ → List ℕ
spelled_length First n = n ∷ []
spelled_length Second n = to_be_bytes w16 n
