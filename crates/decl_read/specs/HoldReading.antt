-- Reading holds, and what is called again and again, from left to right, step by step.
use Rattle.std.specs.Prelude.{ℕ, Bool, true, false, List, [], ◌∷◌, ◌++◌, map, Option, Some, None, slice_get, nat_le, ◌&&◌}
use Rattle.std.specs.Prelude.{◌||◌, not, if◌then◌else◌}
use Rattle.path_tree.specs.declared.token.Symbol.TheVariants as symbols
use Rattle.path_tree.specs.Lexeme.{Lexeme, symbol, number as number_lexeme, identifier, string, end_mark}
use Rattle.path_tree.specs.Reading.{symbol_at}
use Rattle.path_tree.specs.Known.{place_of}
use Rattle.value_core.specs.declared.kind.Elem.{Elem}
use Rattle.value_core.specs.declared.kind.Elem.TheVariants as elem
use Rattle.token_read.specs.Reader.{◌>>=◌, Reader}
use Rattle.token_read.specs.Names.{name_at}
use Rattle.token_read.specs.Scopes.{operation_names}
use Rattle.token_read.specs.Series.{series_at}
use Rattle.decl_core.specs.ObjectForm.{OperationForm}
use Rattle.decl_parts.specs.Declarations.{begins}
use Rattle.decl_parts.specs.DeclarationReading.{provided, number_at}
use Rattle.decl_core.specs.HoldForm.{HoldForm, EveryForm, RulesForm, rules_with, Signature, signature_of, is_one_of}
use Rattle.decl_core.specs.HoldForm.{named_in, ending_in, called_in}
use Rattle.decl_read.specs.declared.words.HoldKeyword.TheVariants as words
use Rattle.decl_read.specs.Words.{word_at, begins_word}
use Rattle.decl_read.specs.Holds.{is_taken, ends_object}

-- the number of the operation that is named in front
unfoldable pub operation_at : List OperationForm → Reader ℕ
operation_at operations ws = do
  q ← name_at ws
  op ← place_of (operation_names operations) q.0
  Some (op, q.1)

-- two sorts are the same
abbrev pub same_elem : Elem → Elem → Bool
same_elem elem.Integer elem.Integer = true
same_elem elem.Integer elem.Text = false
same_elem elem.Text elem.Integer = false
same_elem elem.Text elem.Text = true

-- one sort alone
abbrev pub is_one_sort : List Elem → Elem → Bool
is_one_sort [] e = false
is_one_sort (x ∷ []) e = same_elem x e
is_one_sort (x ∷ y ∷ xs) e = false

abbrev pub is_none_or_sort : List Elem → Option Elem → Bool
is_none_or_sort [] None = true
is_none_or_sort (x ∷ xs) None = false
is_none_or_sort xs (Some e) = is_one_sort xs e

-- what is taken is what was held, and behind it what was replied
abbrev pub takes_held : List Elem → List Elem → Option Elem → Bool
takes_held undo [] reply = is_none_or_sort undo reply
takes_held [] (e ∷ held) reply = false
takes_held (x ∷ undo) (e ∷ held) reply = same_elem x e && takes_held undo held reply

abbrev pub takes_none : List Elem → Bool
takes_none [] = true
takes_none (e ∷ es) = false

abbrev pub replies_none : Option Elem → Bool
replies_none None = true
replies_none (Some e) = false

-- what an operation takes fits for what ends a hold of another one
abbrev pub ends_by : Signature → Signature → Bool
ends_by h u = takes_none u.takes || takes_held u.takes h.takes h.replies

abbrev pub may_end_by : Option OperationForm → Option OperationForm → Bool
may_end_by None u = false
may_end_by (Some h) None = false
may_end_by (Some h) (Some u) = ends_by (signature_of h) (signature_of u)

-- an operation may end a hold of another one
abbrev pub may_end : List OperationForm → ℕ → ℕ → Bool
may_end operations op undo = may_end_by (slice_get operations op) (slice_get operations undo)

-- an operation that ends a hold, behind those before
unfoldable pub undo_in : List OperationForm → List HoldForm → ℕ → List ℕ → Reader (List ℕ)
undo_in operations holds op before ws = do
  q ← operation_at operations ws
  new ← provided (not (is_taken holds op before q.0)) q.0
  fits ← provided (may_end operations op q.0) new
  Some (before ++ q.0 ∷ [], q.1)

unfoldable pub next_undo_in : List OperationForm → List HoldForm → ℕ → List ℕ → Reader (List ℕ)
next_undo_in operations holds op before ws = do
  opened ← symbol_at symbols.Comma ws
  undo_in operations holds op before opened

unfoldable pub undos_in : List OperationForm → List HoldForm → ℕ → Reader (List ℕ)
undos_in operations holds op ws = do
  x ← undo_in operations holds op [] ws
  series_at (next_undo_in operations holds op) (begins symbols.Comma) 32 x.0 x.1

-- whether anybody may end a hold
unfoldable pub loose_by : List Lexeme → Option (List Lexeme) → Option (Bool × List Lexeme)
loose_by ws None = Some (false, ws)
loose_by ws (Some opened) = word_at words.Any opened >>= λ rest. Some (true, rest)

unfoldable pub loose_in : Reader Bool
loose_in ws = loose_by ws (word_at words.By ws)

-- a hold, behind those before
unfoldable pub hold_in : List OperationForm → List HoldForm → Reader (List HoldForm)
hold_in operations before ws = do
  opened ← word_at words.Hold ws
  q ← operation_at operations opened
  new ← provided (not (is_one_of (named_in before) q.0)) q.0
  behind ← word_at words.Until q.1
  u ← undos_in operations before q.0 behind
  b ← loose_in u.1
  rest ← symbol_at symbols.Semicolon b.1
  Some (before ++ record { op = q.0; until = u.0; by_any = b.0 } ∷ [], rest)

-- seconds from 1 to 86400
abbrev pub seconds_of : ℕ → Option ℕ
seconds_of n = provided (nat_le 1 n && nat_le n 86400) n

abbrev pub is_bare_by : Option OperationForm → Bool
is_bare_by None = false
is_bare_by (Some o) = takes_none (signature_of o).takes && replies_none o.result

-- an operation is a procedure that takes nothing
abbrev pub is_bare : List OperationForm → ℕ → Bool
is_bare operations op = is_bare_by (slice_get operations op)

-- what is called again and again, behind what was before
unfoldable pub every_in : List OperationForm → List HoldForm → List EveryForm → Reader (List EveryForm)
every_in operations holds before ws = do
  opened ← word_at words.Every ws
  n ← number_at opened
  seconds ← seconds_of n.0
  named ← word_at words.Call n.1
  q ← operation_at operations named
  new ← provided (not (is_one_of (ending_in holds) q.0 || is_one_of (called_in before) q.0)) q.0
  bare ← provided (is_bare operations q.0) new
  rest ← symbol_at symbols.Semicolon q.1
  Some (before ++ record { seconds = seconds; op = q.0 } ∷ [], rest)

-- the holds of an object, and what it calls again and again, up to its end
unfoldable pub rules_in : List OperationForm → List Lexeme → Option RulesForm
rules_in operations ws = do
  h ← series_at (hold_in operations) (begins_word words.Hold) 16 [] ws
  e ← series_at (every_in operations h.0) (begins_word words.Every) 4 [] h.1
  end ← symbol_at symbols.End e.1
  rest ← symbol_at symbols.Semicolon end
  provided (ends_object rest) (rules_with h.0 e.0)
