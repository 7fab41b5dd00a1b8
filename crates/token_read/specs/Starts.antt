-- Where tokens start in their source.
use Rattle.std.specs.Prelude.{ℕ, List, [], ◌∷◌}
use Rattle.path_tree.specs.declared.token.Token.{Token}

-- the byte where the first of some tokens starts, and 0 where there is none
abbrev pub start_at : List Token → ℕ
start_at [] = 0
start_at (token ∷ tokens) = token.start

-- the byte where the second of them starts, and 0 where there is none
abbrev pub second_start_at : List Token → ℕ
second_start_at [] = 0
second_start_at (token ∷ tokens) = start_at tokens
