-- The limits of a text and of a value.
use Rattle.std.specs.Prelude.{ℕ}

-- the most bytes of a text
abbrev pub most_text_bytes : ℕ
most_text_bytes = 1000

-- the most elements of a value
abbrev pub most_elements : ℕ
most_elements = 1024
