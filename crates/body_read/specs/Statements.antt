-- What a condition and a statement are, by the productions of their grammar.
use Rattle.std.specs.Prelude.{◌≡◌, ℕ, suc, List, ◌∷◌, Some, None}
use Rattle.path_tree.specs.declared.token.Symbol.{Symbol}
use Rattle.path_tree.specs.declared.token.Symbol.TheVariants as symbols
use Rattle.path_tree.specs.Lexeme.{Lexeme, symbol, identifier, string}
use Rattle.path_tree.specs.Reading.{symbol_at}
use Rattle.value_core.specs.declared.kind.Elem.{Elem}
use Rattle.decl_core.specs.declared.stmt.Relation.{Relation}
use Rattle.decl_core.specs.declared.stmt.Relation.TheVariants as relations
use Rattle.decl_core.specs.RefusalWord.{IsRefusalWord}
use Rattle.decl_core.specs.Form.{Integers, Texts, Form, an_integer, a_text, Condition, compare, same_texts, other_texts}
use Rattle.decl_core.specs.Form.{has, is_not, Statement, block, set_element, set_result, append, take, store, erase}
use Rattle.decl_core.specs.Form.{choose, refuse, Statements, nothing, first_and}
use Rattle.token_read.specs.Names.{Names}
use Rattle.decl_core.specs.Sorts.{array_sort, queue_sort, table_sort, sort_of_form}
use Rattle.body_read.specs.Grammar.{IsPart, IsExprBefore}

-- rel = "=" | "<>" | "<" | "<=" | ">" | ">="
pub data IsRelation : Symbol → Relation → Type 0 where
  equal : IsRelation symbols.Equal relations.Equal
  differ : IsRelation symbols.Differ relations.Differ
  less : IsRelation symbols.Less relations.Less
  less_equal : IsRelation symbols.LessEqual relations.LessEqual
  greater : IsRelation symbols.Greater relations.Greater
  greater_equal : IsRelation symbols.GreaterEqual relations.GreaterEqual

-- integers are compared by each relation, texts by `=` and `<>`
pub data Compares : Relation → Form → Form → Condition → Type 0 where
  integers : {r : Relation} {a b : Integers} → Compares r (an_integer a) (an_integer b) (compare r a b)
  equal_texts : {a b : Texts} → Compares relations.Equal (a_text a) (a_text b) (same_texts a b)
  different_texts : {a b : Texts} → Compares relations.Differ (a_text a) (a_text b) (other_texts a b)

-- cond = expr rel expr | "has" "(" name "," expr ")" | "not" cond
-- A condition stands before the rest, with so many levels of expressions left: `(`, `[` and `not` open one each.
pub data IsCond (names : Names) : ℕ → List Lexeme → Condition → List Lexeme → Type 0 where
  comparison : {depth : ℕ} {ws vs rest : List Lexeme} {x y : Form} {s : Symbol} {r : Relation} {c : Condition} →
      IsExprBefore names depth ws x (symbol s ∷ vs) → IsRelation s r → IsExprBefore names depth vs y rest →
      Compares r x y c → IsCond names depth ws c rest
  a_has : {depth p : ℕ} {bytes : List ℕ} {sort : Elem} {ws rest : List Lexeme} {k : Texts} →
      IsPart names bytes table_sort p sort → IsExprBefore names depth ws (a_text k) (symbol symbols.CloseParen ∷ rest) →
      IsCond names (suc depth) (symbol symbols.Has ∷ symbol symbols.OpenParen ∷ identifier bytes ∷ symbol symbols.Comma
      ∷ ws) (has p k) rest
  a_not : {depth : ℕ} {ws rest : List Lexeme} {c : Condition} → IsCond names depth ws c rest →
      IsCond names (suc depth) (symbol symbols.Not ∷ ws) (is_not c) rest

-- stmt = nothing | block | name "[" expr "]" ":=" expr | name ":=" expr
--      | "append" "(" name "," expr ")" | "take" "(" name ")"
--      | "store" "(" name "," expr "," expr ")" | "erase" "(" name "," expr ")"
--      | "if" cond "then" stmt [ "else" stmt ] | "refuse" "(" string ")"
-- A statement stands before the rest, with so many levels of statements left: `begin` and `if` open one each.
-- Expressions have 32 levels in each statement, of which a `(` or `[` of the statement opens one. An `else` belongs
-- to the nearest `if`.
mutual
  pub data IsStmt (names : Names) : ℕ → List Lexeme → Statement → List Lexeme → Type 0 where
    no_statement : {depth : ℕ} {rest : List Lexeme} → IsStmt names depth rest (block nothing) rest
    a_block : {depth : ℕ} {ws rest : List Lexeme} {all : Statements} → IsStmts names depth ws all rest →
        IsStmt names (suc depth) (symbol symbols.Begin ∷ ws) (block all) rest
    an_element : {depth p : ℕ} {bytes : List ℕ} {sort : Elem} {ws vs rest : List Lexeme} {i : Integers} {x : Form} →
        IsPart names bytes array_sort p sort →
        IsExprBefore names 31 ws (an_integer i) (symbol symbols.CloseBracket ∷ symbol symbols.Assign ∷ vs) →
        IsExprBefore names 32 vs x rest → sort_of_form x ≡ sort →
        IsStmt names depth (identifier bytes ∷ symbol symbols.OpenBracket ∷ ws) (set_element p i x) rest
    a_result : {depth : ℕ} {bytes : List ℕ} {sort : Elem} {ws rest : List Lexeme} {x : Form} →
        names.function ≡ Some (bytes, sort) → IsExprBefore names 32 ws x rest → sort_of_form x ≡ sort →
        IsStmt names depth (identifier bytes ∷ symbol symbols.Assign ∷ ws) (set_result x) rest
    an_append : {depth p : ℕ} {bytes : List ℕ} {sort : Elem} {ws rest : List Lexeme} {x : Form} →
        IsPart names bytes queue_sort p sort → IsExprBefore names 31 ws x (symbol symbols.CloseParen ∷ rest) →
        sort_of_form x ≡ sort →
        IsStmt names depth (symbol symbols.Append ∷ symbol symbols.OpenParen ∷ identifier bytes ∷ symbol symbols.Comma
        ∷ ws) (append p x) rest
    a_take : {depth p : ℕ} {bytes : List ℕ} {sort : Elem} {rest : List Lexeme} →
        IsPart names bytes queue_sort p sort →
        IsStmt names depth (symbol symbols.Take ∷ symbol symbols.OpenParen ∷ identifier bytes
        ∷ symbol symbols.CloseParen ∷ rest) (take p) rest
    a_store : {depth p : ℕ} {bytes : List ℕ} {sort : Elem} {ws vs rest : List Lexeme} {k : Texts} {x : Form} →
        IsPart names bytes table_sort p sort → IsExprBefore names 31 ws (a_text k) (symbol symbols.Comma ∷ vs) →
        IsExprBefore names 31 vs x (symbol symbols.CloseParen ∷ rest) → sort_of_form x ≡ sort →
        IsStmt names depth (symbol symbols.Store ∷ symbol symbols.OpenParen ∷ identifier bytes ∷ symbol symbols.Comma
        ∷ ws) (store p k x) rest
    an_erase : {depth p : ℕ} {bytes : List ℕ} {sort : Elem} {ws rest : List Lexeme} {k : Texts} →
        IsPart names bytes table_sort p sort → IsExprBefore names 31 ws (a_text k) (symbol symbols.CloseParen ∷ rest) →
        IsStmt names depth (symbol symbols.Erase ∷ symbol symbols.OpenParen ∷ identifier bytes ∷ symbol symbols.Comma
        ∷ ws) (erase p k) rest
    an_if : {depth : ℕ} {ws vs rest : List Lexeme} {c : Condition} {s : Statement} →
        IsCond names 32 ws c (symbol symbols.Then ∷ vs) → IsStmt names depth vs s rest →
        symbol_at symbols.Else rest ≡ None →
        IsStmt names (suc depth) (symbol symbols.If ∷ ws) (choose c s (block nothing)) rest
    an_if_else : {depth : ℕ} {ws vs us rest : List Lexeme} {c : Condition} {s t : Statement} →
        IsCond names 32 ws c (symbol symbols.Then ∷ vs) → IsStmt names depth vs s (symbol symbols.Else ∷ us) →
        IsStmt names depth us t rest →
        IsStmt names (suc depth) (symbol symbols.If ∷ ws) (choose c s t) rest
    a_refuse : {depth : ℕ} {word : List ℕ} {rest : List Lexeme} →
        IsRefusalWord word → IsStmt names depth (symbol symbols.Refuse ∷ symbol symbols.OpenParen ∷ string word
        ∷ symbol symbols.CloseParen ∷ rest) (refuse word) rest

  -- block = "begin" stmt { ";" stmt } "end", behind its `begin`
  pub data IsStmts (names : Names) : ℕ → List Lexeme → Statements → List Lexeme → Type 0 where
    last : {depth : ℕ} {ws rest : List Lexeme} {s : Statement} → IsStmt names depth ws s (symbol symbols.End ∷ rest) →
        IsStmts names depth ws (first_and s nothing) rest
    and_more : {depth : ℕ} {ws vs rest : List Lexeme} {s : Statement} {all : Statements} →
        IsStmt names depth ws s (symbol symbols.Semicolon ∷ vs) → IsStmts names depth vs all rest →
        IsStmts names depth ws (first_and s all) rest
