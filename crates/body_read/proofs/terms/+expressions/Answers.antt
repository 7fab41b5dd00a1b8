use Rattle.std.proofs.Common.{◌≡◌, ◌+◌, ◌-◌, sym, ap, ◌∙◌, arith, Some}
use Rattle.std.proofs.lemmas.Result.{err_from_is_err_and}
use Rattle.path_tree.specs.Lexeme.{lexemes}
use Rattle.decl_core.specs.View.{form_of, integers_of, total_of_list}
use Rattle.body_read.specs.Reading.{combined, more_at}
use Rattle.body_read.specs.Scopes.{terms_in}
use Rattle.body_read.proofs.Sums.{nested_none, one_more, sum_ends, sum_goes_on, term_fails, kind_fails, sum_over}
use Rattle.decl_core.proofs.Rows.{sum_is}
use Rattle.body_read.proofs.terms.+expressions.Goals as goal

pub nested-returns-then-depth-eq0 : goal.nested-returns-then-depth-eq0
nested-returns-then-depth-eq0 t c = nested_none _ _ _ _ (omega arith)

pub more-returns-in-None : goal.more-returns-in-None
more-returns-in-None t c =
    let first = c.in_ok-new-in-None.ensures.ok ∙ c.loop.invariant.0 in
    let read = sum_ends (terms_in c.args.scope.now c.args.depth) c.args.scope.now.most c.loop.counter (total_of_list (integers_of c.args.first) c.loop.terms.items) (lexemes c.loop.rest.now) _ c.loop-test.true c.in-None.ensures c.loop.invariant.1 in
    read ∙ ap (λ f. Some (f, lexemes c.loop.rest.now)) (sym (sum_is c.in_ok-new-in-None.field-0 c.loop.terms ∙ ap (λ v. total_of_list (integers_of v) c.loop.terms.items) first))

pub more-returns-in_err-e-in-Some : goal.more-returns-in_err-e-in-Some
more-returns-in_err-e-in-Some t c =
    let p = err_from_is_err_and c.from_residual-in_err-e-in-Some.result c.from_residual-in_err-e-in-Some.ensures.1 in
    rw (p.1, p.2) (term_fails c.in_err-e-in-Some.field-0.0 _ c.args.scope.now.most c.loop.counter (total_of_list (integers_of c.args.first) c.loop.terms.items) _ (lexemes c.loop.rest.now) _ _ c.loop-test.true c.in-Some.ensures c.in_err-e-in-Some.ensures c.loop.invariant.1)

pub more-returns-in_err-e-in-Some-2 : goal.more-returns-in_err-e-in-Some-2
more-returns-in_err-e-in-Some-2 t c =
    let p = err_from_is_err_and c.from_residual-in_err-e-in-Some-2.result c.from_residual-in_err-e-in-Some-2.ensures.1 in
    rw (p.1, p.2) (kind_fails c.in_err-e-in-Some-2.field-0.0 _ c.args.scope.now.most c.loop.counter (total_of_list (integers_of c.args.first) c.loop.terms.items) (form_of c.in_ok-e-in-Some.e) _ (lexemes c.loop.rest.now) _ (lexemes c.in_ok-e-in-Some.behind_term.now) _ c.loop-test.true c.in-Some.ensures c.in_ok-e-in-Some.ensures c.in_err-e-in-Some-2.ensures c.loop.invariant.1)

pub more-loop-preserved : goal.more-loop-preserved
more-loop-preserved t c =
    let grown : total_of_list (integers_of c.args.first) c.push.new.self.items ≡ combined c.in-Some.is_plus (total_of_list (integers_of c.args.first) c.loop.terms.items) (integers_of c.in_ok-e-in-Some-2.e) =
    ap (total_of_list (integers_of c.args.first)) c.in_ok-push-in-Some.ensures.items ∙ one_more (integers_of c.args.first) c.loop.terms.items c.signed.result ∙ c.signed.ensures (total_of_list (integers_of c.args.first) c.loop.terms.items) in
    let goes = sum_goes_on (terms_in c.args.scope.now c.args.depth) c.args.scope.now.most c.loop.counter (total_of_list (integers_of c.args.first) c.loop.terms.items) (integers_of c.in_ok-e-in-Some-2.e) (form_of c.in_ok-e-in-Some.e) c.in-Some.is_plus (lexemes c.loop.rest.now) _ (lexemes c.in_ok-e-in-Some.behind_term.now) _ c.loop-test.true c.in-Some.ensures c.in_ok-e-in-Some.ensures c.in_ok-e-in-Some-2.ensures c.loop.invariant.1 in
    (c.loop.invariant.0, ap (λ s. more_at (terms_in c.args.scope.now c.args.depth) (c.args.scope.now.most - (c.loop.counter + 1)) s (lexemes c.in_ok-e-in-Some.behind_term.now)) grown ∙ goes)

pub more-returns : goal.more-returns
more-returns t c = sum_over (terms_in c.args.scope.now c.args.depth) c.args.scope.now.most c.loop.counter (total_of_list (integers_of c.args.first) c.loop.terms.items) (lexemes c.loop.rest.now) _ c.loop-test.false c.loop.invariant.1
