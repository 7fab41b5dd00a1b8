-- Reading a path from left to right, step by step, for the functions inside `parse_path`. That it reads
-- the grammar is proved.
use Rattle.std.specs.Prelude.{◌≡◌, ℕ, zero, suc, List, [], ◌∷◌, ◌++◌, Bool, Option, Some, None, Result, Ok, Err, nat_le}
use Rattle.std.specs.Prelude.{◌==◌, ◌&&◌, if◌then◌else◌}
use Rattle.std.specs.List.{list_any}
use Rattle.path_tree.specs.declared.path_fault.PathFault.{PathFault}
use Rattle.path_tree.specs.declared.path_fault.PathFault.TheVariants as faults
use Rattle.path_tree.specs.declared.token.Symbol.{Symbol}
use Rattle.path_tree.specs.declared.token.Symbol.TheVariants.{Comma, Semicolon, Colon, OpenParen, CloseParen}
use Rattle.path_tree.specs.declared.token.Symbol.TheVariants.{OpenBracket, CloseBracket, Path as PathWord, End}
use Rattle.std.specs.Borrow.{Bor}
use Rattle.path_tree.specs.declared.token.Token.{Token}
use Rattle.path_tree.specs.declared.node.Node.{Node}
use Rattle.path_tree.specs.declared.parts.Parts.{Parts}
use Rattle.path_tree.specs.declared.scope.Scope.{Scope}
use Rattle.path_tree.specs.Path.{Path, name, bound, burst, path_of}
use Rattle.path_tree.specs.Limits.{node_count}
use Rattle.path_tree.specs.Parts.{SomePaths, parts_of, one, several, put, as_list, as_sequence}
use Rattle.path_tree.specs.Lexeme.{lexemes, Lexeme, symbol, number, identifier, string, end_mark, same_symbol}
use Rattle.path_tree.specs.Known.{Known, known_of, place_of, value_of}

-- a fault says that nothing can be read; where memory ran out, nothing is said.
abbrev pub Fails : {Y : Type 0} → PathFault → Option Y → Type 0
Fails faults.Memory read = Unit {0}
Fails faults.TooMany read = read ≡ None
Fails (faults.Expected at) read = read ≡ None
Fails (faults.UnknownName at) read = read ≡ None
Fails (faults.RepeatedName at) read = read ≡ None
Fails (faults.BadBound at) read = read ≡ None
Fails (faults.TooDeep at) read = read ≡ None

-- what a function returned, seen by view, is what reading gives, unless memory ran out.
abbrev pub Gives : {X Y : Type 0} → (X → Y) → Result X PathFault → Option Y → Type 0
Gives view (Ok x) read = read ≡ Some (view x)
Gives view (Err e) read = Fails e read

-- what was read, with the operations that were seen then and what stands behind
abbrev pub node_read : List ℕ → Node × Bor (List Token) → Path × List ℕ × List Lexeme
node_read seen x = (path_of x.0, seen, lexemes x.1.now)

abbrev pub parts_read : List ℕ → Parts × Bor (List Token) → SomePaths × List ℕ × List Lexeme
parts_read seen x = (parts_of x.0, seen, lexemes x.1.now)

infixl 10 ◌>>=◌
abbrev pub ◌>>=◌ : {A B : Type 0} → Option A → (A → Option B) → Option B
(Some x) >>= f = f x
None >>= f = None

-- behind a symbol
abbrev pub symbol_at : Symbol → List Lexeme → Option (List Lexeme)
symbol_at s [] = None
symbol_at s (symbol x ∷ ws) = if same_symbol x s then Some ws else None
symbol_at s (number n ∷ ws) = None
symbol_at s (identifier bytes ∷ ws) = None
symbol_at s (string bytes ∷ ws) = None
symbol_at s (end_mark ∷ ws) = None

-- a reader is given the names seen so far and the lexemes, and answers what it read, the names seen then and
-- the lexemes after it.
abbrev pub Reader : Type 0 → Type 0
Reader A = List ℕ → List Lexeme → Option (A × List ℕ × List Lexeme)

-- an operation is among those that were seen
abbrev pub was_seen : List ℕ → ℕ → Bool
was_seen seen op = list_any (λ o. o == op) seen

-- an operation that was not seen before
unfoldable pub name_at : Known → List ℕ → Reader Path
name_at known bytes seen ws = do
  op ← place_of known.operations bytes
  if was_seen seen op then None else Some (name op, seen ++ op ∷ [], ws)

unfoldable pub limit_of : ℕ → Option ℕ
limit_of n = if nat_le 1 n && nat_le n 65535 then Some n else None

-- a list, behind the symbol that opens
unfoldable pub group_in : Reader Path → Reader Path
group_in nested seen ws = do
  x ← nested seen ws
  rest ← symbol_at CloseParen x.2
  Some (x.0, x.1, rest)

unfoldable pub burst_in : Reader Path → Reader Path
burst_in nested seen ws = do
  x ← nested seen ws
  rest ← symbol_at CloseBracket x.2
  Some (burst x.0, x.1, rest)

-- what stands behind a limit
unfoldable pub bounded_in : Reader Path → ℕ → Reader Path
bounded_in nested n seen ws = do
  limit ← limit_of n
  behind ← symbol_at Colon ws
  opened ← symbol_at OpenParen behind
  x ← group_in nested seen opened
  Some (bound limit x.0, x.1, x.2)

-- behind a name: a constant's where a colon follows, else an operation's
unfoldable pub named_in : Known → Reader Path → List ℕ → List Lexeme → Option (List Lexeme) → List ℕ →
    Option (Path × List ℕ × List Lexeme)
named_in known nested bytes ws (Some behind) seen = value_of known.constants bytes >>= λ n. bounded_in nested n seen ws
named_in known nested bytes ws None seen = name_at known bytes seen ws

-- behind a symbol that opens
unfoldable pub opened_in : Reader Path → Symbol → Reader Path
opened_in nested s seen ws =
    if same_symbol s OpenParen then group_in nested seen ws
    else if same_symbol s OpenBracket then burst_in nested seen ws else None

unfoldable pub item_in : Known → Reader Path → Reader Path
item_in known nested seen [] = None
item_in known nested seen (number n ∷ ws) = bounded_in nested n seen ws
item_in known nested seen (identifier bytes ∷ ws) = named_in known nested bytes ws (symbol_at Colon ws) seen
item_in known nested seen (symbol s ∷ ws) = opened_in nested s seen ws
item_in known nested seen (string bytes ∷ ws) = None
item_in known nested seen (end_mark ∷ ws) = None

-- one member and, behind a separator, others
unfoldable pub with_others : Reader SomePaths → Path × List ℕ × List Lexeme → Option (List Lexeme) →
    Option (SomePaths × List ℕ × List Lexeme)
with_others others x None = Some (one x.0, x.1, x.2)
with_others others x (Some behind) = do
  y ← others x.1 behind
  Some (several (put x.0 y.0), y.1, y.2)

-- members behind a separator, at most so many
unfoldable pub parts_at : Symbol → Reader Path → ℕ → Reader SomePaths
parts_at separator member zero seen ws = None
parts_at separator member (suc left) seen ws = do
  x ← member seen ws
  with_others (parts_at separator member left) x (symbol_at separator x.2)

unfoldable pub sequence_in : Reader Path → ℕ → Reader Path
sequence_in item most seen ws = do
  x ← parts_at Semicolon item most seen ws
  Some (as_sequence x.0, x.1, x.2)

unfoldable pub list_in : Reader Path → ℕ → Reader Path
list_in item most seen ws = do
  x ← parts_at Comma (sequence_in item most) most seen ws
  Some (as_list x.0, x.1, x.2)

-- a list, with so many levels left
unfoldable pub nested_at : Known → ℕ → ℕ → Reader Path
nested_at known most zero seen ws = None
nested_at known most (suc depth) seen ws = list_in (item_in known (nested_at known most depth)) most seen ws

-- a path, of no more than 256 nodes, between its two words
unfoldable pub path_at : Known → ℕ → List Lexeme → Option (Path × List Lexeme)
path_at known most ws = do
  opened ← symbol_at PathWord ws
  x ← list_in (item_in known (nested_at known most 32)) most [] opened
  rest ← symbol_at End x.2
  if nat_le (node_count x.0) 256 then Some (x.0, rest) else None

-- what is read in a scope, with so many levels left
abbrev pub nested_in : Scope → ℕ → Reader Path
nested_in scope depth = nested_at (known_of scope) scope.most depth

abbrev pub items_in : Scope → ℕ → Reader Path
items_in scope depth = item_in (known_of scope) (nested_in scope depth)
