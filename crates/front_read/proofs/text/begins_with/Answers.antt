use Rattle.std.proofs.Common.{sym, ◌∙◌, ap}
use Rattle.front_read.specs.Text.{begins}
use Rattle.front_read.proofs.Texts.{begins-front, not_begun}
use Rattle.front_read.proofs.text.begins_with.Goals as goal

pub returns-in-Some : goal.returns-in-Some
returns-in-Some c = sym (ap (λ t. begins t c.args.front.now) c.in-Some.ensures ∙ begins-front c.args.front.now c.in-Some.field-0.now)

pub returns-in-None : goal.returns-in-None
returns-in-None c = sym (not_begun c.args.text.now c.args.front.now c.in-None.ensures)
