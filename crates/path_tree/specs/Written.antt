-- Names that a text can be written with.
use Rattle.std.specs.Prelude.{◌≢◌, ℕ, ◌<◌, List, length}
use Rattle.path_tree.specs.declared.token.Symbol.{Symbol}
use Rattle.path_tree.specs.Identifier.{IsName}
use Rattle.path_tree.specs.Lexeme.{symbol_text}
use Rattle.path_tree.specs.Tokens.{IsReserved}
use Rattle.path_tree.specs.Canonical.{name_of}

-- a name that is no reserved word
abbrev pub IsFreeName : List ℕ → Type 0
IsFreeName bytes = IsName bytes × ((s : Symbol) → IsReserved s → bytes ≢ symbol_text s)

abbrev pub AreFreeNames : List (List ℕ) → Type 0
AreFreeNames names = (op : ℕ) → op < length names → IsFreeName (name_of names op)
