-- The lexemes of expressions and paths name no operation that is declared.
use Rattle.std.proofs.Common.{◌≡◌, ℕ, Bool, true, false, List, [], ◌∷◌, ◌++◌, refl, ap, ◌∙◌, append_assoc}
use Rattle.path_tree.specs.declared.token.Symbol.TheVariants as symbols
use Rattle.path_tree.specs.Lexeme.{Lexeme, symbol}
use Rattle.path_tree.specs.Grammar.{Limit, a_number as number_limit, a_constant, ListText, last_seq, seq_and, SeqText, last_item, item_and, ItemText, operation, limited, in_burst, in_group, limit_lexeme, list_lexemes, seq_lexemes, item_lexemes}
use Rattle.decl_read.specs.declared.collect.Opening.TheVariants as openings
use Rattle.decl_core.specs.Form.{Form}
use Rattle.token_read.specs.Names.{Names}
use Rattle.body_read.specs.Grammar.{ExprText, terms, MoreText, no_more, and_more, TermText, a_number, a_string, a_name, an_element, a_first, a_lookup, a_count, in_parens, sign_symbol, expr_lexemes, more_lexemes, term_lexemes, IsExprBefore}
use Rattle.decl_read.specs.Declarations.{entry_names}

-- the names of the entries that stand in these lexemes, up to the next object
abbrev pub names_in : List Lexeme → List (List ℕ)
names_in ws = entry_names openings.Nothing ws

sign_skipped : (plus : Bool) (rest : List Lexeme) → names_in (symbol (sign_symbol plus) ∷ rest) ≡ names_in rest
sign_skipped true rest = refl
sign_skipped false rest = refl

mutual
  expr_skipped : (e : ExprText) (rest : List Lexeme) → names_in (expr_lexemes e ++ rest) ≡ names_in rest
  expr_skipped (terms t m) rest = ap names_in (append_assoc (term_lexemes t) (more_lexemes m) rest) ∙ term_skipped t (more_lexemes m ++ rest) ∙ more_skipped m rest

  more_skipped : (m : MoreText) (rest : List Lexeme) → names_in (more_lexemes m ++ rest) ≡ names_in rest
  more_skipped no_more rest = refl
  more_skipped (and_more plus t m) rest =
      sign_skipped plus ((term_lexemes t ++ more_lexemes m) ++ rest) ∙ ap names_in (append_assoc (term_lexemes t) (more_lexemes m) rest)
      ∙ term_skipped t (more_lexemes m ++ rest) ∙ more_skipped m rest

  term_skipped : (t : TermText) (rest : List Lexeme) → names_in (term_lexemes t ++ rest) ≡ names_in rest
  term_skipped (a_number n) rest = refl
  term_skipped (a_string bytes) rest = refl
  term_skipped (a_name bytes) rest = refl
  term_skipped (an_element bytes e) rest = ap names_in (append_assoc (expr_lexemes e) (symbol symbols.CloseBracket ∷ []) rest) ∙ expr_skipped e (symbol symbols.CloseBracket ∷ rest)
  term_skipped (a_first bytes) rest = refl
  term_skipped (a_lookup bytes e) rest = ap names_in (append_assoc (expr_lexemes e) (symbol symbols.CloseParen ∷ []) rest) ∙ expr_skipped e (symbol symbols.CloseParen ∷ rest)
  term_skipped (a_count bytes) rest = refl
  term_skipped (in_parens e) rest = ap names_in (append_assoc (expr_lexemes e) (symbol symbols.CloseParen ∷ []) rest) ∙ expr_skipped e (symbol symbols.CloseParen ∷ rest)

-- an expression that stands before the rest
pub expr_before : (names : Names) (depth : ℕ) (ws : List Lexeme) (x : Form) (rest : List Lexeme) → IsExprBefore names depth ws x rest → names_in ws ≡ names_in rest
expr_before names depth ws x rest is = ap names_in is.stands ∙ expr_skipped is.text rest

limit_skipped : (n : Limit) (rest : List Lexeme) → names_in (limit_lexeme n ∷ rest) ≡ names_in rest
limit_skipped (number_limit n) rest = refl
limit_skipped (a_constant bytes) rest = refl

mutual
  pub list_skipped : (l : ListText) (rest : List Lexeme) → names_in (list_lexemes l ++ rest) ≡ names_in rest
  list_skipped (last_seq s) rest = seq_skipped s rest
  list_skipped (seq_and s l) rest =
      ap names_in (append_assoc (seq_lexemes s) (symbol symbols.Comma ∷ list_lexemes l) rest) ∙ seq_skipped s (symbol symbols.Comma ∷ (list_lexemes l ++ rest)) ∙ list_skipped l rest

  seq_skipped : (s : SeqText) (rest : List Lexeme) → names_in (seq_lexemes s ++ rest) ≡ names_in rest
  seq_skipped (last_item i) rest = item_skipped i rest
  seq_skipped (item_and i s) rest =
      ap names_in (append_assoc (item_lexemes i) (symbol symbols.Semicolon ∷ seq_lexemes s) rest) ∙ item_skipped i (symbol symbols.Semicolon ∷ (seq_lexemes s ++ rest)) ∙ seq_skipped s rest

  item_skipped : (i : ItemText) (rest : List Lexeme) → names_in (item_lexemes i ++ rest) ≡ names_in rest
  item_skipped (operation bytes) rest = refl
  item_skipped (limited n l) rest =
      limit_skipped n (symbol symbols.Colon ∷ symbol symbols.OpenParen ∷ ((list_lexemes l ++ symbol symbols.CloseParen ∷ []) ++ rest))
      ∙ ap names_in (append_assoc (list_lexemes l) (symbol symbols.CloseParen ∷ []) rest) ∙ list_skipped l (symbol symbols.CloseParen ∷ rest)
  item_skipped (in_burst l) rest = ap names_in (append_assoc (list_lexemes l) (symbol symbols.CloseBracket ∷ []) rest) ∙ list_skipped l (symbol symbols.CloseBracket ∷ rest)
  item_skipped (in_group l) rest = ap names_in (append_assoc (list_lexemes l) (symbol symbols.CloseParen ∷ []) rest) ∙ list_skipped l (symbol symbols.CloseParen ∷ rest)
