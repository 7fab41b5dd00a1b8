-- What holds are, and what is called again and again, by the productions of their grammar, over the operations of an object.
use Rattle.std.specs.Prelude.{◌≡◌, ℕ, ◌≤◌, Bool, true, false, ◌==◌, ◌||◌, List, [], ◌∷◌, ◌++◌, Some, None}
use Rattle.path_tree.specs.declared.token.Symbol.TheVariants as symbols
use Rattle.path_tree.specs.Lexeme.{Lexeme, symbol, number, identifier, string, end_mark, same_symbol}
use Rattle.path_tree.specs.Known.{place_of}
use Rattle.token_read.specs.Scopes.{operation_names}
use Rattle.token_read.specs.Series.{IsSeries}
use Rattle.decl_core.specs.ObjectForm.{OperationForm}
use Rattle.decl_core.specs.HoldForm.{HoldForm, EveryForm, RulesForm, rules_with, MayEnd, IsEvery, is_one_of, named_in}
use Rattle.decl_core.specs.HoldForm.{called_in, signatures_of}
use Rattle.decl_parts.specs.Declarations.{begins}
use Rattle.decl_read.specs.Declarations.{is_object_word}
use Rattle.decl_read.specs.declared.words.HoldKeyword.TheVariants as words
use Rattle.decl_read.specs.Words.{word, word_at, begins_word}

-- the names of these operations have this number at this name
abbrev pub IsOperation : List OperationForm → List ℕ → ℕ → Type 0
IsOperation operations bytes op = place_of (operation_names operations) bytes ≡ Some op

-- an operation stands before: in holds, as the operation of this one, or among those that end it
abbrev pub is_taken : List HoldForm → ℕ → List ℕ → ℕ → Bool
is_taken holds op before undo = op == undo || is_one_of (named_in holds) undo || is_one_of before undo

-- name  of an operation that may end the hold of this one, and that no hold names
pub data IsUndo (operations : List OperationForm) (holds : List HoldForm) (op : ℕ) : List ℕ → List Lexeme → List ℕ →
    List Lexeme → Type 0 where
  undo : {before : List ℕ} {bytes : List ℕ} {u : ℕ} {rest : List Lexeme} → IsOperation operations bytes u →
      is_taken holds op before u ≡ false → MayEnd (signatures_of operations) op u →
      IsUndo operations holds op before (identifier bytes ∷ rest) (before ++ u ∷ []) rest

-- "," name
pub data IsNextUndo (operations : List OperationForm) (holds : List HoldForm) (op : ℕ) : List ℕ → List Lexeme →
    List ℕ → List Lexeme → Type 0 where
  next_undo : {before after : List ℕ} {ws rest : List Lexeme} → IsUndo operations holds op before ws after rest →
      IsNextUndo operations holds op before (symbol symbols.Comma ∷ ws) after rest

-- name { "," name }
pub data IsUndos (operations : List OperationForm) (holds : List HoldForm) (op : ℕ) : List Lexeme → List ℕ →
    List Lexeme → Type 0 where
  undos : {one all : List ℕ} {ws vs rest : List Lexeme} → IsUndo operations holds op [] ws one vs →
      IsSeries (IsNextUndo operations holds op) (begins symbols.Comma) 32 one vs all rest →
      IsUndos operations holds op ws all rest

-- [ "by" "any" ]
pub data IsLoose : List Lexeme → Bool → List Lexeme → Type 0 where
  strict : {ws : List Lexeme} → word_at words.By ws ≡ None → IsLoose ws false ws
  loose : {rest : List Lexeme} → IsLoose (word words.By ∷ word words.Any ∷ rest) true rest

-- hold = "hold" name "until" name { "," name } [ "by" "any" ] ";"
pub data IsHoldItem (operations : List OperationForm) : List HoldForm → List Lexeme → List HoldForm → List Lexeme →
    Type 0 where
  a_hold : {before : List HoldForm} {own : List ℕ} {op : ℕ} {all : List ℕ} {any : Bool} {ws vs rest : List Lexeme} →
      IsOperation operations own op → is_one_of (named_in before) op ≡ false →
      IsUndos operations before op ws all vs → IsLoose vs any (symbol symbols.Semicolon ∷ rest) →
      IsHoldItem operations before (word words.Hold ∷ identifier own ∷ word words.Until ∷ ws)
      (before ++ record { op = op; until = all; by_any = any } ∷ []) rest

-- every = "every" number "call" name ";"  a number from 1 to 86400, and a procedure that takes nothing, which ends no
-- hold, and which is called once
pub data IsEveryItem (operations : List OperationForm) (holds : List HoldForm) : List EveryForm → List Lexeme →
    List EveryForm → List Lexeme → Type 0 where
  an_every : {before : List EveryForm} {n : ℕ} {own : List ℕ} {op : ℕ} {rest : List Lexeme} → 1 ≤ n → n ≤ 86400 →
      IsOperation operations own op → is_one_of (called_in before) op ≡ false →
      IsEvery (signatures_of operations) holds (record { seconds = n; op = op }) →
      IsEveryItem operations holds before (word words.Every ∷ number n ∷ word words.Call ∷ identifier own
      ∷ symbol symbols.Semicolon ∷ rest) (before ++ record { seconds = n; op = op } ∷ []) rest

-- the word `object`, or the end of the source, stands in front
abbrev pub is_end_mark : Lexeme → Bool
is_end_mark end_mark = true
is_end_mark (symbol s) = false
is_end_mark (number n) = false
is_end_mark (identifier bytes) = false
is_end_mark (string bytes) = false

abbrev pub ends_object : List Lexeme → Bool
ends_object [] = false
ends_object (w ∷ ws) = is_object_word w || is_end_mark w

-- rules = { hold } { every } "end" ";"  behind the operations of an object, which end there
pub data IsRules (operations : List OperationForm) : List Lexeme → RulesForm → Type 0 where
  rules : {holds : List HoldForm} {everies : List EveryForm} {ws vs rest : List Lexeme} →
      IsSeries (IsHoldItem operations) (begins_word words.Hold) 16 [] ws holds vs →
      IsSeries (IsEveryItem operations holds) (begins_word words.Every) 4 [] vs everies
      (symbol symbols.End ∷ symbol symbols.Semicolon ∷ rest) →
      ends_object rest ≡ true →
      IsRules operations ws (rules_with holds everies)
