-- The lexemes of conditions and statements name no operation that is declared.
use Rattle.std.proofs.Common.{◌≡◌, ℕ, List, ◌∷◌, refl, ◌∙◌}
use Rattle.path_tree.specs.declared.token.Symbol.{Symbol}
use Rattle.path_tree.specs.declared.token.Symbol.TheVariants as symbols
use Rattle.path_tree.specs.Lexeme.{Lexeme, symbol}
use Rattle.decl_core.specs.declared.stmt.Relation.{Relation}
use Rattle.decl_core.specs.Form.{Condition, Statement, Statements, an_integer, a_text}
use Rattle.token_read.specs.Names.{Names}
use Rattle.body_read.specs.Statements.{IsRelation, equal, differ, less, less_equal, greater, greater_equal, IsCond, comparison, a_has, a_not, IsStmt, no_statement, a_block, an_element, a_result, an_append, a_take, a_store, an_erase, an_if, an_if_else, a_refuse, IsStmts, last, and_more}
use Rattle.decl_read.proofs.SkippedTexts.{names_in, expr_before}

relation_skipped : (s : Symbol) (r : Relation) (rest : List Lexeme) → IsRelation s r → names_in (symbol s ∷ rest) ≡ names_in rest
relation_skipped s r rest equal = refl
relation_skipped s r rest differ = refl
relation_skipped s r rest less = refl
relation_skipped s r rest less_equal = refl
relation_skipped s r rest greater = refl
relation_skipped s r rest greater_equal = refl

module _ (names : Names) where
  cond_skipped : (depth : ℕ) (ws : List Lexeme) (c : Condition) (rest : List Lexeme) → IsCond names depth ws c rest → names_in ws ≡ names_in rest
  cond_skipped depth ws c rest (comparison {vs = vs} {x = x} {y = y} {s = s} {r = r} left is right compares) =
      expr_before names depth ws x (symbol s ∷ vs) left ∙ relation_skipped s r vs is ∙ expr_before names depth vs y rest right
  cond_skipped depth ws c rest (a_has {depth = d} {ws = vs} {k = k} part key) = expr_before names d vs (a_text k) (symbol symbols.CloseParen ∷ rest) key
  cond_skipped depth ws c rest (a_not {depth = d} {ws = vs} {c = inner} is) = cond_skipped d vs inner rest is

  mutual
    stmt_skipped : (depth : ℕ) (ws : List Lexeme) (s : Statement) (rest : List Lexeme) → IsStmt names depth ws s rest → names_in ws ≡ names_in rest
    stmt_skipped depth ws s rest no_statement = refl
    stmt_skipped depth ws s rest (a_block {depth = d} {ws = vs} {all = all} is) = stmts_skipped d vs all rest is
    stmt_skipped depth ws s rest (an_element {ws = us} {vs = vs} {i = i} {x = x} part index value same) =
        expr_before names 31 us (an_integer i) (symbol symbols.CloseBracket ∷ symbol symbols.Assign ∷ vs) index ∙ expr_before names 32 vs x rest value
    stmt_skipped depth ws s rest (a_result {ws = vs} {x = x} own value same) = expr_before names 32 vs x rest value
    stmt_skipped depth ws s rest (an_append {ws = vs} {x = x} part value same) = expr_before names 31 vs x (symbol symbols.CloseParen ∷ rest) value
    stmt_skipped depth ws s rest (a_take part) = refl
    stmt_skipped depth ws s rest (a_store {ws = us} {vs = vs} {k = k} {x = x} part key value same) =
        expr_before names 31 us (a_text k) (symbol symbols.Comma ∷ vs) key ∙ expr_before names 31 vs x (symbol symbols.CloseParen ∷ rest) value
    stmt_skipped depth ws s rest (an_erase {ws = vs} {k = k} part key) = expr_before names 31 vs (a_text k) (symbol symbols.CloseParen ∷ rest) key
    stmt_skipped depth ws s rest (an_if {depth = d} {ws = us} {vs = vs} {c = c} {s = t} test first none) =
        cond_skipped 32 us c (symbol symbols.Then ∷ vs) test ∙ stmt_skipped d vs t rest first
    stmt_skipped depth ws s rest (an_if_else {depth = d} {ws = ws'} {vs = vs} {us = us} {c = c} {s = t} {t = u} test first second) =
        cond_skipped 32 ws' c (symbol symbols.Then ∷ vs) test ∙ stmt_skipped d vs t (symbol symbols.Else ∷ us) first ∙ stmt_skipped d us u rest second
    stmt_skipped depth ws s rest (a_refuse is) = refl

    pub stmts_skipped : (depth : ℕ) (ws : List Lexeme) (all : Statements) (rest : List Lexeme) → IsStmts names depth ws all rest → names_in ws ≡ names_in rest
    stmts_skipped depth ws all rest (last {s = s} is) = stmt_skipped depth ws s (symbol symbols.End ∷ rest) is
    stmts_skipped depth ws all rest (and_more {vs = vs} {s = s} {all = others} is more) =
        stmt_skipped depth ws s (symbol symbols.Semicolon ∷ vs) is ∙ stmts_skipped depth vs others rest more
