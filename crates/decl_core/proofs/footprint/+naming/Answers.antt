use Rattle.std.proofs.Common.{sym, ap, ◌∙◌}
use Rattle.decl_core.specs.View.{integers_of}
use Rattle.decl_core.specs.Footprint.{named_in_integers}
use Rattle.decl_core.specs.Terms.{named_in_terms}
use Rattle.decl_core.proofs.Rows.{sum_is, named_sum}
use Rattle.decl_core.proofs.footprint.+naming.Goals as goal

pub named_by_integer-returns-in-Sum : goal.named_by_integer-returns-in-Sum
named_by_integer-returns-in-Sum t c =
    c.named_by_terms.ensures ∙ ap (λ xs. named_in_terms xs c.named_by_integer.result) c.deref-in-Sum.ensures.value ∙ ap (named_in_terms c.in-Sum.terms.items) (c.named_by_integer.ensures ∙ ap (λ e. named_in_integers (integers_of e) c.args.so_far) c.deref-in-Sum-2.ensures) ∙ sym (named_sum c.in-Sum.terms.items (integers_of c.in-Sum.first.value) c.args.so_far) ∙ sym (ap (λ e. named_in_integers e c.args.so_far) (sum_is c.in-Sum.first c.in-Sum.terms)) ∙ sym (ap (λ e. named_in_integers (integers_of e) c.args.so_far) c.in-Sum.is)
