-- The label that tells of which server a number is.
use Rattle.std.specs.Prelude.{ℕ, ◌==◌, List, [], ◌∷◌, ◌++◌, codes, flat_map, if◌then◌else◌}

-- A byte of a text, as the value of a label has it: a backslash stands before a backslash and before a quotation mark, and
-- the end of a line is a backslash and an `n`.
abbrev pub label_byte : ℕ → List ℕ
label_byte b =
    if b == 92 then codes "\\\\" else if b == 34 then codes "\\\"" else if b == 10 then codes "\\n" else b ∷ []

abbrev pub label_value : List ℕ → List ℕ
label_value text = flat_map label_byte text

-- the label of the server of a folder
abbrev pub server_label : List ℕ → List ℕ
server_label folder = codes "server=\"" ++ label_value folder ++ codes "\""

-- a byte of lines that have labels: the label of the server is the first one of each
abbrev pub with_label : List ℕ → ℕ → List ℕ
with_label label b = if b == 123 then codes "{" ++ label ++ codes "," else b ∷ []

-- lines that have labels, each with the label of the server
abbrev pub labelled : List ℕ → List ℕ → List ℕ
labelled label text = flat_map (with_label label) text
