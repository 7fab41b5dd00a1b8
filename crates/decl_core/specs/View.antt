-- The trees of the code, without where they lie in memory.
use Rattle.std.specs.Prelude.{List, [], ◌∷◌}
use Rattle.decl_core.specs.declared.expr.Source.{Source}
use Rattle.decl_core.specs.declared.expr.Source.TheVariants as sources
use Rattle.decl_core.specs.declared.expr.IntegerExpr.{IntegerExpr, Row_of-Signed, end_of-Signed, more_of-Signed}
use Rattle.decl_core.specs.declared.expr.IntegerExpr.TheVariants as integers
use Rattle.decl_core.specs.declared.expr.Signed.{Signed}
use Rattle.decl_core.specs.declared.expr.Signed.TheVariants as signs
use Rattle.decl_core.specs.declared.expr.TextExpr.{TextExpr}
use Rattle.decl_core.specs.declared.expr.TextExpr.TheVariants as texts
use Rattle.decl_core.specs.declared.expr.Expr.{Expr}
use Rattle.decl_core.specs.declared.expr.Expr.TheVariants as exprs
use Rattle.decl_core.specs.declared.stmt.Cond.{Cond}
use Rattle.decl_core.specs.declared.stmt.Cond.TheVariants as conds
use Rattle.decl_core.specs.declared.stmt.Stmt.{Stmt, Row_of-Stmt, end_of-Stmt, more_of-Stmt}
use Rattle.decl_core.specs.declared.stmt.Stmt.TheVariants as stmts
use Rattle.decl_core.specs.Form.{From, argument, element, oldest, under, Integers, number, integer_from, count, add}
use Rattle.decl_core.specs.Form.{subtract, Texts, literal, text_from, Form, an_integer, a_text, Condition, compare}
use Rattle.decl_core.specs.Form.{same_texts, other_texts, has, is_not, Statement, block, set_element, set_result}
use Rattle.decl_core.specs.Form.{append, take, store, erase, choose, refuse, Statements, nothing, first_and}

-- a sum is its first term, with each further term added or subtracted
abbrev mutual
  pub from_of : Source → From
  from_of (sources.Parameter k) = argument k
  from_of (sources.Element p i) = element p (integers_of i)
  from_of (sources.First p) = oldest p
  from_of (sources.Lookup p k) = under p (texts_of k)

  pub integers_of : IntegerExpr → Integers
  integers_of (integers.Number n) = number n
  integers_of (integers.From' p s) = integer_from (from_of s)
  integers_of (integers.Count p) = count p
  integers_of (integers.Sum' p e shape terms) = total_of (integers_of e) terms

  pub total_of : {n : _} → Integers → Row_of-Signed n → Integers
  total_of first end_of-Signed = first
  total_of first (more_of-Signed s rest) = total_of (with_term first s) rest

  pub with_term : Integers → Signed → Integers
  with_term first (signs.Plus e) = add first (integers_of e)
  with_term first (signs.Minus e) = subtract first (integers_of e)

  pub texts_of : TextExpr → Texts
  texts_of (texts.Literal t) = literal t.value
  texts_of (texts.From' p s) = text_from (from_of s)

abbrev pub form_of : Expr → Form
form_of (exprs.Integer e) = an_integer (integers_of e)
form_of (exprs.Text e) = a_text (texts_of e)

abbrev pub condition_of : Cond → Condition
condition_of (conds.Integers r a b) = compare r (integers_of a) (integers_of b)
condition_of (conds.SameTexts a b) = same_texts (texts_of a) (texts_of b)
condition_of (conds.OtherTexts a b) = other_texts (texts_of a) (texts_of b)
condition_of (conds.Has p k) = has p (texts_of k)
condition_of (conds.Not' p c) = is_not (condition_of c)

abbrev mutual
  pub statement_of : Stmt → Statement
  statement_of (stmts.Block' shape all) = block (statements_of all)
  statement_of (stmts.SetElement p i e) = set_element p (integers_of i) (form_of e)
  statement_of (stmts.SetResult e) = set_result (form_of e)
  statement_of (stmts.Append p e) = append p (form_of e)
  statement_of (stmts.Take p) = take p
  statement_of (stmts.Store p k e) = store p (texts_of k) (form_of e)
  statement_of (stmts.Erase p k) = erase p (texts_of k)
  statement_of (stmts.If' c p s q t) = choose (condition_of c) (statement_of s) (statement_of t)
  statement_of (stmts.Refuse w) = refuse w

  pub statements_of : {n : _} → Row_of-Stmt n → Statements
  statements_of end_of-Stmt = nothing
  statements_of (more_of-Stmt s rest) = first_and (statement_of s) (statements_of rest)

-- the sum of a first integer and a list of terms
abbrev pub total_of_list : Integers → List Signed → Integers
total_of_list first [] = first
total_of_list first (s ∷ rest) = total_of_list (with_term first s) rest

-- the statements of a list, in order
abbrev pub all_of : List Stmt → Statements
all_of [] = nothing
all_of (s ∷ rest) = first_and (statement_of s) (all_of rest)
