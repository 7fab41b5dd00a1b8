use Rattle.std.proofs.Common.{List, ℕ, refl, sym, subst}
use Rattle.decl_read.specs.HeldSources.{AreHeldObjectsOf}
use Rattle.answer_core.proofs.sources.plain_source.Goals as goal

pub returns-in-Plain-clause-plain : goal.returns-in-Plain-clause-plain
returns-in-Plain-clause-plain c = (
  refl,
  λ objects rules are. c.in_ok-look_at.ensures.plain objects rules
      (subst (λ (text : List ℕ). AreHeldObjectsOf text objects rules) (sym c.deref.ensures.value) are) c.in-Plain.is,
)
