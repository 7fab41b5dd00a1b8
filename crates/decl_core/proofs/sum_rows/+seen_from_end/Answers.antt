use Rattle.std.proofs.Common.{sym, ap, ◌∙◌}
use Rattle.decl_core.specs.View.{integers_of, total_of_list, with_term}
use Rattle.decl_core.proofs.Rows.{sum_is}
use Rattle.decl_core.proofs.LastTerms.{total_last, none_there}
use Rattle.decl_core.proofs.sum_rows.+seen_from_end.Goals as goal

pub returns-in-Plus : goal.returns-in-Plus
returns-in-Plus t c =
    let first = integers_of c.args.first.now in
    sym (ap (total_of_list first) c.in-Some.ensures.cases.0 ∙ total_last first c.in-Some.before.now c.in-Some.last.now ∙ ap (with_term (total_of_list first c.in-Some.before.now)) c.in-Plus.is)

pub returns-in-Minus : goal.returns-in-Minus
returns-in-Minus t c =
    let first = integers_of c.args.first.now in
    sym (ap (total_of_list first) c.in-Some.ensures.cases.0 ∙ total_last first c.in-Some.before.now c.in-Some.last.now ∙ ap (with_term (total_of_list first c.in-Some.before.now)) c.in-Minus.is)

pub returns-in-Sum : goal.returns-in-Sum
returns-in-Sum t c =
    c.seen_from_end.ensures ∙ ap (λ e. total_of_list (integers_of e) c.deref-in-Sum-2.result.now) c.deref-in-Sum.ensures ∙ ap (total_of_list (integers_of c.in-Sum.first.value)) c.deref-in-Sum-2.ensures.value ∙ sym (sum_is c.in-Sum.first c.in-Sum.terms) ∙ sym (ap integers_of c.in-Sum.is) ∙ sym (ap (total_of_list (integers_of c.args.first.now)) (none_there c.args.terms.now c.in-None.ensures.cases))
