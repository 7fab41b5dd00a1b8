use Rattle.std.proofs.Common.{◌≡◌, ◌+◌, ◌-◌, sym, ap, ◌∙◌, arith, Some}
use Rattle.std.proofs.lemmas.Result.{err_from_is_err_and}
use Rattle.path_tree.specs.Lexeme.{lexemes}
use Rattle.decl_core.specs.View.{statement_of, all_of}
use Rattle.body_read.specs.StatementReading.{and_then, statements_at}
use Rattle.body_read.specs.Scopes.{inner_in}
use Rattle.body_read.proofs.StatementSteps.{inner_none, one_statement_more, statements_end, statements_go_on, statement_fails, end_fails, statements_over}
use Rattle.body_read.proofs.block.+statements.Goals as goal

pub inner-returns-then-depth-eq0 : goal.inner-returns-then-depth-eq0
inner-returns-then-depth-eq0 t c = inner_none _ _ _ _ (omega arith)

pub statements-returns-in_err-s : goal.statements-returns-in_err-s
statements-returns-in_err-s t c =
    let p = err_from_is_err_and c.from_residual.result c.from_residual.ensures.1 in
    rw (p.1, p.2) (statement_fails c.in_err-s.field-0.0 (inner_in c.args.scope.now c.args.depth) c.args.scope.now.most c.loop.counter (all_of c.loop.done.items) (lexemes c.loop.rest.now) _ c.loop-test.true c.in_err-s.ensures c.loop.invariant)

pub statements-returns-in_err-rest-in-None : goal.statements-returns-in_err-rest-in-None
statements-returns-in_err-rest-in-None t c =
    let p = err_from_is_err_and c.from_residual-in_err-rest-in-None.result c.from_residual-in_err-rest-in-None.ensures.1 in
    rw (p.1, p.2) (end_fails c.in_err-rest-in-None.field-0.0 (inner_in c.args.scope.now c.args.depth) c.args.scope.now.most c.loop.counter (all_of c.loop.done.items) (statement_of c.in_ok-s.s) (lexemes c.loop.rest.now) (lexemes c.in_ok-s.behind_one.now) _ c.loop-test.true c.in_ok-s.ensures c.in-None.ensures c.in_err-rest-in-None.ensures c.loop.invariant)

pub statements-returns-in-None : goal.statements-returns-in-None
statements-returns-in-None t c =
    let grown : all_of c.push.new.self.items ≡ and_then (all_of c.loop.done.items) (statement_of c.in_ok-s.s) = ap all_of c.in_ok-push.ensures.items ∙ one_statement_more c.loop.done.items c.in_ok-s.s in
    statements_end (inner_in c.args.scope.now c.args.depth) c.args.scope.now.most c.loop.counter (all_of c.loop.done.items) (statement_of c.in_ok-s.s) (lexemes c.loop.rest.now) (lexemes c.in_ok-s.behind_one.now) (lexemes c.in_ok-rest-in-None.rest.now) _ c.loop-test.true c.in_ok-s.ensures c.in-None.ensures c.in_ok-rest-in-None.ensures c.loop.invariant
    ∙ ap (λ all. Some (all, lexemes c.in_ok-rest-in-None.rest.now)) (sym grown)

pub statements-loop-preserved : goal.statements-loop-preserved
statements-loop-preserved t c =
    let grown : all_of c.push.new.self.items ≡ and_then (all_of c.loop.done.items) (statement_of c.in_ok-s.s) = ap all_of c.in_ok-push.ensures.items ∙ one_statement_more c.loop.done.items c.in_ok-s.s in
    ap (λ all. statements_at (inner_in c.args.scope.now c.args.depth) (c.args.scope.now.most - (c.loop.counter + 1)) all (lexemes c.in-Some.others.now)) grown
    ∙ statements_go_on (inner_in c.args.scope.now c.args.depth) c.args.scope.now.most c.loop.counter (all_of c.loop.done.items) (statement_of c.in_ok-s.s) (lexemes c.loop.rest.now) (lexemes c.in_ok-s.behind_one.now) (lexemes c.in-Some.others.now) _ c.loop-test.true c.in_ok-s.ensures c.in-Some.ensures c.loop.invariant

pub statements-returns : goal.statements-returns
statements-returns t c = statements_over (inner_in c.args.scope.now c.args.depth) c.args.scope.now.most c.loop.counter (all_of c.loop.done.items) (lexemes c.loop.rest.now) _ c.loop-test.false c.loop.invariant
