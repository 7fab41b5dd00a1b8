use Rattle.decl_core.proofs.LastTerms.{sum_apart}
use Rattle.decl_core.proofs.same_text.+comparing.Goals as goal

pub same_integer-returns-in-Single : goal.same_integer-returns-in-Single
same_integer-returns-in-Single t c = (
  λ h. absurd cc,
  λ e. absurd (sum_apart c.terms.x c.terms.y c.in-Sum.before_x c.in-Sum.is_added c.in-Sum.term c.in-Single.field-0 c.in-Sum.is c.in-Single.is (c.terms.invariant.0.1 e)),
)
