use Rattle.std.proofs.Common.{◌≡◌, ℕ, sym, subst, ◌∙◌}
use Rattle.std.specs.Prelude.{decimal}
use Rattle.keep_loop.specs.Taken.{NoSpace}
use Rattle.keep_loop.proofs.CheckLines.{number_apart, number_some}
use Rattle.keep_loop.proofs.check_lines.number_in.Goals as goal

pub returns-in-Some : goal.returns-in-Some
returns-in-Some c size rest small is = c.value_of.ensures size small (number_apart _ _ rest size small c.in-Some.ensures.0 (sym c.in-Some.ensures.1 ∙ is))

pub returns-in-None : goal.returns-in-None
returns-in-None c size rest small is = absurd (number_some (decimal size) rest (subst NoSpace is c.in-None.ensures))
