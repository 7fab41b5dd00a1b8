-- Bytes of a file that are not of its text.
use Rattle.std.specs.Prelude.{ℕ, ◌+◌, ◌==◌, List, [], ◌∷◌, if◌then◌else◌}

-- what stands behind the first byte 0
abbrev pub past_zero : List ℕ → List ℕ
past_zero [] = []
past_zero (b ∷ file) = if b == 0 then file else past_zero file

-- how many bytes are not 0
abbrev pub solid_bytes : List ℕ → ℕ
solid_bytes [] = 0
solid_bytes (b ∷ bytes) = (if b == 0 then 0 else 1) + solid_bytes bytes
