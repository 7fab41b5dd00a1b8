-- Lines and columns.
use Rattle.std.specs.Prelude.{ℕ, ◌+◌, ◌==◌, List, [], ◌∷◌, if◌then◌else◌, take}

-- the line that a byte of line `line` is followed in: a line feed ends it
abbrev pub line_behind : ℕ → ℕ → ℕ
line_behind line b = if b == 10 then line + 1 else line

-- the column that follows a byte: behind a line feed the first one, and any other byte is one column, a TAB too
abbrev pub column_behind : ℕ → ℕ → ℕ
column_behind column b = if b == 10 then 1 else column + 1

-- the line behind these bytes, the first of which stands in line `line`
abbrev pub line_after : ℕ → List ℕ → ℕ
line_after line [] = line
line_after line (b ∷ bytes) = line_after (line_behind line b) bytes

-- the column behind these bytes, the first of which stands in column `column`
abbrev pub column_after : ℕ → List ℕ → ℕ
column_after column [] = column
column_after column (b ∷ bytes) = column_after (column_behind column b) bytes

-- the line of the byte at a place, from 1: a function of the bytes before it
abbrev pub line_of : List ℕ → ℕ → ℕ
line_of source at = line_after 1 (take at source)

-- the column of the byte at a place, from 1: a function of the bytes before it
abbrev pub column_of : List ℕ → ℕ → ℕ
column_of source at = column_after 1 (take at source)
