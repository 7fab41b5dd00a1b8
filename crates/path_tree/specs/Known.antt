-- The names that a path is read with.
use Rattle.std.specs.Prelude.{ℕ, suc, List, [], ◌∷◌, Option, Some, None, bytes_eq, if◌then◌else◌, map}
use Rattle.path_tree.specs.declared.lookup.Constant.{Constant}
use Rattle.path_tree.specs.declared.scope.Scope as scopes

-- the names of operations, by their numbers, and constants with their values
pub record Known : Type 0 where
  pub operations : List (List ℕ)
  pub constants : List (List ℕ × ℕ)

abbrev pub constants_of : List Constant → List (List ℕ × ℕ)
constants_of constants = map (λ c. (c.name, c.value)) constants

abbrev pub known_with : List Constant → List (List ℕ) → Known
known_with constants names = record { operations = names; constants = constants_of constants }

abbrev pub known_of : scopes.Scope → Known
known_of k = known_with k.constants.now k.operations.now

-- the place one further
abbrev pub next : Option ℕ → Option ℕ
next (Some k) = Some (suc k)
next None = None

-- the place of the first name of these bytes
abbrev pub place_of : List (List ℕ) → List ℕ → Option ℕ
place_of [] bytes = None
place_of (x ∷ xs) bytes = if bytes_eq x bytes then Some 0 else next (place_of xs bytes)

-- the value of the first constant of this name
abbrev pub value_of : List (List ℕ × ℕ) → List ℕ → Option ℕ
value_of [] bytes = None
value_of (c ∷ cs) bytes = if bytes_eq c.0 bytes then Some c.1 else value_of cs bytes
