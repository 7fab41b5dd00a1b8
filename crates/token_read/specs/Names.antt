-- The names that are declared, and a name or a sign in front.
use Rattle.std.specs.Prelude.{ℕ, suc, List, [], ◌∷◌, Bool, true, false, Option, Some, None}
use Rattle.std.specs.Prelude.{◌||◌, is_some, bytes_eq, if◌then◌else◌}
use Rattle.path_tree.specs.declared.token.Symbol.TheVariants.{Plus, Minus}
use Rattle.path_tree.specs.Lexeme.{symbol, number as number_lexeme, identifier, string, end_mark, same_symbol}
use Rattle.path_tree.specs.Known.{value_of}
use Rattle.value_core.specs.declared.kind.Elem.{Elem}
use Rattle.value_core.specs.declared.kind.Kind.{Kind}
use Rattle.token_read.specs.Reader.{Reader}

-- the names declared so far: constants with their values, parameters and parts with their kinds, operations; in a
-- function's body also which function it is, and its kind
pub record Names : Type 0 where
  pub constants : List (List ℕ × ℕ)
  pub params : List (List ℕ × Elem)
  pub parts : List (List ℕ × Kind)
  pub operations : List (List ℕ)
  pub function : Option (List ℕ × Elem)

-- one of these names has these bytes
abbrev pub is_among : List (List ℕ) → List ℕ → Bool
is_among [] bytes = false
is_among (x ∷ xs) bytes = bytes_eq x bytes || is_among xs bytes

-- one place further
abbrev pub next : {A : Type 0} → Option (ℕ × A) → Option (ℕ × A)
next (Some x) = Some (suc x.0, x.1)
next None = None

-- the place of the first of this name, and its kind
abbrev pub found_in : {A : Type 0} → List (List ℕ × A) → List ℕ → Option (ℕ × A)
found_in [] bytes = None
found_in (x ∷ xs) bytes = if bytes_eq x.0 bytes then Some (0, x.1) else next (found_in xs bytes)

-- a name is declared already
abbrev pub is_known : Names → List ℕ → Bool
is_known names bytes =
    is_some (value_of names.constants bytes) || is_some (found_in names.params bytes)
    || is_some (found_in names.parts bytes) || is_among names.operations bytes

-- a name in front
abbrev pub name_at : Reader (List ℕ)
name_at [] = None
name_at (identifier bytes ∷ ws) = Some (bytes, ws)
name_at (symbol s ∷ ws) = None
name_at (number_lexeme n ∷ ws) = None
name_at (string bytes ∷ ws) = None
name_at (end_mark ∷ ws) = None

-- a plus or a minus in front
abbrev pub sign_at : Reader Bool
sign_at [] = None
sign_at (symbol s ∷ ws) =
    if same_symbol s Plus then Some (true, ws) else if same_symbol s Minus then Some (false, ws) else None
sign_at (number_lexeme n ∷ ws) = None
sign_at (identifier bytes ∷ ws) = None
sign_at (string bytes ∷ ws) = None
sign_at (end_mark ∷ ws) = None
