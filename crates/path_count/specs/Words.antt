-- The words of a line.
use Rattle.std.specs.Prelude.{ℕ, Bool, ◌==◌, nat_lt, List, length, filter}
use Rattle.std.specs.List.{slice_split}

-- a byte is a space
abbrev pub is_space : ℕ → Bool
is_space b = b == 32

-- the words of a line: the parts between spaces that have a byte
abbrev pub words : List ℕ → List (List ℕ)
words line = filter (λ part. nat_lt 0 (length part)) (slice_split is_space line)
