-- What a start tells on standard error, and goes on.
use Rattle.std.specs.Prelude.{ℕ, List, codes}

-- it stands behind the name of a folder that others can read
abbrev pub shared_text : List ℕ
shared_text = codes ": others can read or lock this folder: give it the mode 700\n"
