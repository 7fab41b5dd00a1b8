-- The texts of answers.
use Rattle.std.specs.Prelude.{ℕ, Option, Some, None, List, ◌++◌, codes, decimal}

-- a word, a name, and a line end
abbrev pub reply : List ℕ → List ℕ → List ℕ
reply word name = word ++ name ++ codes "\n"

-- the place of a fault, and a line end
abbrev pub place_text : Option ℕ → List ℕ
place_text None = codes "\n"
place_text (Some at) = reply (codes " at ") (decimal at)

-- the number, the name and the place of a fault
abbrev pub fault_text : ℕ → List ℕ → Option ℕ → List ℕ
fault_text number name place = decimal number ++ codes " " ++ name ++ place_text place
