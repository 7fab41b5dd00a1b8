-- In the lexemes of expressions, paths and statements no two stand one behind the other with which holds begin.
use Rattle.std.proofs.Common.{◌≡◌, ℕ, Bool, true, false, cond, not, ◌&&◌, ◌||◌, List, [], ◌∷◌, ◌++◌, Option, Some, None, refl, ap, ◌∙◌, append_assoc}
use Rattle.std.specs.Prelude.{bytes_eq, codes}
use Rattle.path_tree.specs.declared.token.Symbol.{Symbol}
use Rattle.path_tree.specs.declared.token.Symbol.TheVariants as symbols
use Rattle.path_tree.specs.Lexeme.{Lexeme, symbol, identifier}
use Rattle.path_tree.specs.Grammar.{Limit, a_number as number_limit, a_constant, ListText, last_seq, seq_and, SeqText, last_item, item_and, ItemText, operation, limited, in_burst, in_group, limit_lexeme, list_lexemes, seq_lexemes, item_lexemes}
use Rattle.decl_core.specs.declared.stmt.Relation.{Relation}
use Rattle.decl_core.specs.Form.{Form, Condition, Statement, Statements, an_integer, a_text}
use Rattle.token_read.specs.Names.{Names}
use Rattle.body_read.specs.Grammar.{ExprText, terms, MoreText, no_more, and_more as and_term, TermText, a_number, a_string, a_name, an_element as element_term, a_first, a_lookup, a_count, in_parens, sign_symbol, expr_lexemes, more_lexemes, term_lexemes, IsExprBefore}
use Rattle.body_read.specs.Statements.{IsRelation, equal, differ, less, less_equal, greater, greater_equal, IsCond, comparison, a_has, a_not, IsStmt, no_statement, a_block, an_element, a_result, an_append, a_take, a_store, an_erase, an_if, an_if_else, a_refuse, IsStmts, last, and_more}
use Rattle.decl_parts.specs.Declarations.{begins_name}
use Rattle.decl_read.specs.Declarations.{is_object_word}
use Rattle.decl_read.specs.Sections.{begins_number, begins_rules, name_behind, number_behind}

-- holds begin nowhere in these lexemes
abbrev pub is_calm : List Lexeme → Bool
is_calm [] = true
is_calm (w ∷ ws) = not (begins_rules (w ∷ ws)) && is_calm ws

-- what stands behind the next word `object`
abbrev pub behind_in : List Lexeme → Option (List Lexeme)
behind_in [] = None
behind_in (w ∷ ws) = cond (is_object_word w) (Some ws) (behind_in ws)

-- what is seen from here on: whether holds begin nowhere, and what stands behind the next word `object`
abbrev pub seen : List Lexeme → Bool × Option (List Lexeme)
seen ws = (is_calm ws, behind_in ws)

-- neither a name nor a number stands in front
abbrev pub IsPlain : List Lexeme → Type 0
IsPlain ws = (begins_name ws ≡ false) × (begins_number ws ≡ false)

no_name : (b : Bool) (ws : List Lexeme) → begins_name ws ≡ false → name_behind (cond b (Some ws) None) ≡ false
no_name true ws h = h
no_name false ws h = refl

no_number : (b : Bool) (ws : List Lexeme) → begins_number ws ≡ false → number_behind (cond b (Some ws) None) ≡ false
no_number true ws h = h
no_number false ws h = refl

-- a name before neither a name nor a number
pub name_seen : (bytes : List ℕ) (rest : List Lexeme) → IsPlain rest → seen (identifier bytes ∷ rest) ≡ seen rest
name_seen bytes rest p =
    λ i. (not (no_name (bytes_eq bytes (codes "hold")) rest p.0 i || no_number (bytes_eq bytes (codes "every")) rest p.1 i) && is_calm rest, behind_in rest)

sign_seen : (plus : Bool) (rest : List Lexeme) → seen (symbol (sign_symbol plus) ∷ rest) ≡ seen rest
sign_seen true rest = refl
sign_seen false rest = refl

more_plain : (m : MoreText) (rest : List Lexeme) → IsPlain rest → IsPlain (more_lexemes m ++ rest)
more_plain no_more rest p = p
more_plain (and_term plus t m) rest p = (refl, refl)

mutual
  expr_seen : (e : ExprText) (rest : List Lexeme) → IsPlain rest → seen (expr_lexemes e ++ rest) ≡ seen rest
  expr_seen (terms t m) rest p =
      ap seen (append_assoc (term_lexemes t) (more_lexemes m) rest) ∙ term_seen t (more_lexemes m ++ rest) (more_plain m rest p) ∙ more_seen m rest p

  more_seen : (m : MoreText) (rest : List Lexeme) → IsPlain rest → seen (more_lexemes m ++ rest) ≡ seen rest
  more_seen no_more rest p = refl
  more_seen (and_term plus t m) rest p =
      sign_seen plus ((term_lexemes t ++ more_lexemes m) ++ rest) ∙ ap seen (append_assoc (term_lexemes t) (more_lexemes m) rest)
      ∙ term_seen t (more_lexemes m ++ rest) (more_plain m rest p) ∙ more_seen m rest p

  term_seen : (t : TermText) (rest : List Lexeme) → IsPlain rest → seen (term_lexemes t ++ rest) ≡ seen rest
  term_seen (a_number n) rest p = refl
  term_seen (a_string bytes) rest p = refl
  term_seen (a_name bytes) rest p = name_seen bytes rest p
  term_seen (element_term bytes e) rest p =
      name_seen bytes (symbol symbols.OpenBracket ∷ ((expr_lexemes e ++ symbol symbols.CloseBracket ∷ []) ++ rest)) (refl, refl)
      ∙ ap seen (append_assoc (expr_lexemes e) (symbol symbols.CloseBracket ∷ []) rest) ∙ expr_seen e (symbol symbols.CloseBracket ∷ rest) (refl, refl)
  term_seen (a_first bytes) rest p = name_seen bytes (symbol symbols.CloseParen ∷ rest) (refl, refl)
  term_seen (a_lookup bytes e) rest p =
      name_seen bytes (symbol symbols.Comma ∷ ((expr_lexemes e ++ symbol symbols.CloseParen ∷ []) ++ rest)) (refl, refl)
      ∙ ap seen (append_assoc (expr_lexemes e) (symbol symbols.CloseParen ∷ []) rest) ∙ expr_seen e (symbol symbols.CloseParen ∷ rest) (refl, refl)
  term_seen (a_count bytes) rest p = name_seen bytes (symbol symbols.CloseParen ∷ rest) (refl, refl)
  term_seen (in_parens e) rest p = ap seen (append_assoc (expr_lexemes e) (symbol symbols.CloseParen ∷ []) rest) ∙ expr_seen e (symbol symbols.CloseParen ∷ rest) (refl, refl)

-- an expression that stands before the rest
expr_before : (names : Names) (depth : ℕ) (ws : List Lexeme) (x : Form) (rest : List Lexeme) → IsExprBefore names depth ws x rest → IsPlain rest → seen ws ≡ seen rest
expr_before names depth ws x rest is p = ap seen is.stands ∙ expr_seen is.text rest p

limit_seen : (n : Limit) (rest : List Lexeme) → seen (limit_lexeme n ∷ symbol symbols.Colon ∷ rest) ≡ seen rest
limit_seen (number_limit n) rest = refl
limit_seen (a_constant bytes) rest = name_seen bytes (symbol symbols.Colon ∷ rest) (refl, refl)

mutual
  pub list_seen : (l : ListText) (rest : List Lexeme) → IsPlain rest → seen (list_lexemes l ++ rest) ≡ seen rest
  list_seen (last_seq s) rest p = seq_seen s rest p
  list_seen (seq_and s l) rest p =
      ap seen (append_assoc (seq_lexemes s) (symbol symbols.Comma ∷ list_lexemes l) rest) ∙ seq_seen s (symbol symbols.Comma ∷ (list_lexemes l ++ rest)) (refl, refl) ∙ list_seen l rest p

  seq_seen : (s : SeqText) (rest : List Lexeme) → IsPlain rest → seen (seq_lexemes s ++ rest) ≡ seen rest
  seq_seen (last_item i) rest p = item_seen i rest p
  seq_seen (item_and i s) rest p =
      ap seen (append_assoc (item_lexemes i) (symbol symbols.Semicolon ∷ seq_lexemes s) rest) ∙ item_seen i (symbol symbols.Semicolon ∷ (seq_lexemes s ++ rest)) (refl, refl) ∙ seq_seen s rest p

  item_seen : (i : ItemText) (rest : List Lexeme) → IsPlain rest → seen (item_lexemes i ++ rest) ≡ seen rest
  item_seen (operation bytes) rest p = name_seen bytes rest p
  item_seen (limited n l) rest p =
      limit_seen n (symbol symbols.OpenParen ∷ ((list_lexemes l ++ symbol symbols.CloseParen ∷ []) ++ rest))
      ∙ ap seen (append_assoc (list_lexemes l) (symbol symbols.CloseParen ∷ []) rest) ∙ list_seen l (symbol symbols.CloseParen ∷ rest) (refl, refl)
  item_seen (in_burst l) rest p = ap seen (append_assoc (list_lexemes l) (symbol symbols.CloseBracket ∷ []) rest) ∙ list_seen l (symbol symbols.CloseBracket ∷ rest) (refl, refl)
  item_seen (in_group l) rest p = ap seen (append_assoc (list_lexemes l) (symbol symbols.CloseParen ∷ []) rest) ∙ list_seen l (symbol symbols.CloseParen ∷ rest) (refl, refl)

relation_seen : (s : Symbol) (r : Relation) (rest : List Lexeme) → IsRelation s r → seen (symbol s ∷ rest) ≡ seen rest
relation_seen s r rest equal = refl
relation_seen s r rest differ = refl
relation_seen s r rest less = refl
relation_seen s r rest less_equal = refl
relation_seen s r rest greater = refl
relation_seen s r rest greater_equal = refl

module _ (names : Names) where
  cond_seen : (depth : ℕ) (ws : List Lexeme) (c : Condition) (rest : List Lexeme) → IsCond names depth ws c rest → IsPlain rest → seen ws ≡ seen rest
  cond_seen depth ws c rest (comparison {vs = vs} {x = x} {y = y} {s = s} {r = r} left is right compares) p =
      expr_before names depth ws x (symbol s ∷ vs) left (refl, refl) ∙ relation_seen s r vs is ∙ expr_before names depth vs y rest right p
  cond_seen depth ws c rest (a_has {depth = d} {bytes = bytes} {ws = vs} {k = k} part key) p =
      name_seen bytes (symbol symbols.Comma ∷ vs) (refl, refl) ∙ expr_before names d vs (a_text k) (symbol symbols.CloseParen ∷ rest) key (refl, refl)
  cond_seen depth ws c rest (a_not {depth = d} {ws = vs} {c = inner} is) p = cond_seen d vs inner rest is p

  mutual
    stmt_seen : (depth : ℕ) (ws : List Lexeme) (s : Statement) (rest : List Lexeme) → IsStmt names depth ws s rest → IsPlain rest → seen ws ≡ seen rest
    stmt_seen depth ws s rest no_statement p = refl
    stmt_seen depth ws s rest (a_block {depth = d} {ws = vs} {all = all} is) p = stmts_seen d vs all rest is
    stmt_seen depth ws s rest (an_element {bytes = bytes} {ws = us} {vs = vs} {i = i} {x = x} part index value same) p =
        name_seen bytes (symbol symbols.OpenBracket ∷ us) (refl, refl)
        ∙ expr_before names 31 us (an_integer i) (symbol symbols.CloseBracket ∷ symbol symbols.Assign ∷ vs) index (refl, refl) ∙ expr_before names 32 vs x rest value p
    stmt_seen depth ws s rest (a_result {bytes = bytes} {ws = vs} {x = x} own value same) p =
        name_seen bytes (symbol symbols.Assign ∷ vs) (refl, refl) ∙ expr_before names 32 vs x rest value p
    stmt_seen depth ws s rest (an_append {bytes = bytes} {ws = vs} {x = x} part value same) p =
        name_seen bytes (symbol symbols.Comma ∷ vs) (refl, refl) ∙ expr_before names 31 vs x (symbol symbols.CloseParen ∷ rest) value (refl, refl)
    stmt_seen depth ws s rest (a_take {bytes = bytes} part) p = name_seen bytes (symbol symbols.CloseParen ∷ rest) (refl, refl)
    stmt_seen depth ws s rest (a_store {bytes = bytes} {ws = us} {vs = vs} {k = k} {x = x} part key value same) p =
        name_seen bytes (symbol symbols.Comma ∷ us) (refl, refl)
        ∙ expr_before names 31 us (a_text k) (symbol symbols.Comma ∷ vs) key (refl, refl) ∙ expr_before names 31 vs x (symbol symbols.CloseParen ∷ rest) value (refl, refl)
    stmt_seen depth ws s rest (an_erase {bytes = bytes} {ws = vs} {k = k} part key) p =
        name_seen bytes (symbol symbols.Comma ∷ vs) (refl, refl) ∙ expr_before names 31 vs (a_text k) (symbol symbols.CloseParen ∷ rest) key (refl, refl)
    stmt_seen depth ws s rest (an_if {depth = d} {ws = us} {vs = vs} {c = c} {s = t} test first none) p =
        cond_seen 32 us c (symbol symbols.Then ∷ vs) test (refl, refl) ∙ stmt_seen d vs t rest first p
    stmt_seen depth ws s rest (an_if_else {depth = d} {ws = ws'} {vs = vs} {us = us} {c = c} {s = t} {t = u} test first second) p =
        cond_seen 32 ws' c (symbol symbols.Then ∷ vs) test (refl, refl) ∙ stmt_seen d vs t (symbol symbols.Else ∷ us) first (refl, refl) ∙ stmt_seen d us u rest second p
    stmt_seen depth ws s rest (a_refuse is) p = refl

    pub stmts_seen : (depth : ℕ) (ws : List Lexeme) (all : Statements) (rest : List Lexeme) → IsStmts names depth ws all rest → seen ws ≡ seen rest
    stmts_seen depth ws all rest (last {s = s} is) = stmt_seen depth ws s (symbol symbols.End ∷ rest) is (refl, refl)
    stmts_seen depth ws all rest (and_more {vs = vs} {s = s} {all = others} is more) =
        stmt_seen depth ws s (symbol symbols.Semicolon ∷ vs) is (refl, refl) ∙ stmts_seen depth vs others rest more
