-- What is read with a scope, and what was read, without where they lie in memory.
use Rattle.std.specs.Prelude.{ℕ, List}
use Rattle.std.specs.Borrow.{Bor}
use Rattle.std.specs.Global.{Vec}
use Rattle.path_tree.specs.Lexeme.{lexemes, Lexeme}
use Rattle.path_tree.specs.declared.token.Token.{Token}
use Rattle.value_core.specs.declared.kind.Kind.{Kind}
use Rattle.decl_core.specs.declared.expr.Expr.{Expr}
use Rattle.decl_core.specs.declared.expr.IntegerExpr.{IntegerExpr}
use Rattle.token_read.specs.declared.scope.BodyScope.{BodyScope}
use Rattle.decl_core.specs.declared.stmt.Cond.{Cond}
use Rattle.decl_core.specs.declared.stmt.Relation.{Relation}
use Rattle.decl_core.specs.declared.stmt.Stmt.{Stmt}
use Rattle.decl_core.specs.Form.{Form, Integers, Condition, Statement, Statements}
use Rattle.decl_core.specs.View.{form_of, integers_of, condition_of, statement_of, all_of}
use Rattle.token_read.specs.Reader.{Reader}
use Rattle.body_read.specs.Reading.{nested_at, term_in}
use Rattle.body_read.specs.StatementReading.{condition_at, deeper_condition, inner_at, statement_in}
use Rattle.token_read.specs.Scopes.{names_of}

-- an expression one level deeper, and a term, where so many levels are left
abbrev pub nested_in : BodyScope → ℕ → Reader Form
nested_in s depth = nested_at (names_of s) s.most depth

abbrev pub terms_in : BodyScope → ℕ → Reader Form
terms_in s depth = term_in (names_of s) (nested_in s depth) depth

-- what was read, and what stands behind
abbrev pub form_read : Expr × Bor (List Token) → Form × List Lexeme
form_read x = (form_of x.0, lexemes x.1.now)

abbrev pub integers_read : IntegerExpr × Bor (List Token) → Integers × List Lexeme
integers_read x = (integers_of x.0, lexemes x.1.now)

abbrev pub part_read : ℕ × Kind × Bor (List Token) → ℕ × Kind × List Lexeme
part_read x = (x.0, x.1, lexemes x.2.now)

-- a condition behind `not`, and one where so many levels are left
abbrev pub deeper_in : BodyScope → ℕ → Reader Condition
deeper_in s depth = deeper_condition (names_of s) s.most depth

abbrev pub conditions_in : BodyScope → ℕ → Reader Condition
conditions_in s depth = condition_at (names_of s) s.most depth

-- a statement inside `begin` or `if`, and one where so many levels are left
abbrev pub inner_in : BodyScope → ℕ → Reader Statement
inner_in s depth = inner_at (names_of s) s.most depth

abbrev pub statement_by : BodyScope → ℕ → Reader Statement
statement_by s depth = statement_in (names_of s) s.most (inner_in s depth) depth

abbrev pub relation_read : Relation × Bor (List Token) → Relation × List Lexeme
relation_read x = (x.0, lexemes x.1.now)

abbrev pub condition_read : Cond × Bor (List Token) → Condition × List Lexeme
condition_read x = (condition_of x.0, lexemes x.1.now)

abbrev pub string_read : Bor (List ℕ) × Bor (List Token) → List ℕ × List Lexeme
string_read x = (x.0.now, lexemes x.1.now)

abbrev pub statement_read : Stmt × Bor (List Token) → Statement × List Lexeme
statement_read x = (statement_of x.0, lexemes x.1.now)

abbrev pub statements_read : Vec Stmt × Bor (List Token) → Statements × List Lexeme
statements_read x = (all_of x.0.items, lexemes x.1.now)
