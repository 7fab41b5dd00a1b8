use Rattle.std.proofs.Common.{◌∙◌, sym}
use Rattle.page_core.proofs.Lists.{true_false}
use Rattle.world_core.specs.HoldDoes.{is_gone, not_held}
use Rattle.world_core.proofs.Refusing.{never_word}
use Rattle.world_core.proofs.refused.word_for.Goals as goal

pub returns-then-is_among : goal.returns-then-is_among
returns-then-is_among c = λ said asks. is_gone asks (sym c.is_among.ensures ∙ c.if-is_among.true)

pub returns-then-not-lacks : goal.returns-then-not-lacks
returns-then-not-lacks c = λ said asks word. never_word _ _ _ _ said _ _ word asks (sym c.is_among.ensures ∙ c.if-is_among.false) (λ new lacking. true_false c.lacks.result (c.lacks.ensures.1 lacking) c.if-not-lacks.true)

pub returns-then-is_new : goal.returns-then-is_new
returns-then-is_new c = λ said asks. not_held asks (sym c.is_among.ensures ∙ c.if-is_among.false) (c.is_new.ensures.0 c.if-is_new.true) (c.lacks.ensures.0 c.if-not-lacks.false)

pub returns : goal.returns
returns c = λ said asks word. never_word _ _ _ _ said _ _ word asks (sym c.is_among.ensures ∙ c.if-is_among.false) (λ new lacking. true_false c.is_new.result (c.is_new.ensures.1 new) c.if-is_new.false)
