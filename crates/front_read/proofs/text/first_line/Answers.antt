use Rattle.std.proofs.Common.{sym, ◌∙◌, subst}
use Rattle.value_core.specs.Runs.{NoLineFeed}
use Rattle.front_read.proofs.Texts.{one_cut, no_cut}
use Rattle.front_read.proofs.text.first_line.Goals as goal

pub returns-in-Some : goal.returns-in-Some
returns-in-Some c line rest none is = (one_cut c.in-Some.line.now line c.in-Some.field-0-1.now rest c.in-Some.ensures.0 none (sym c.in-Some.ensures.1 ∙ is)).0

pub returns-in-None : goal.returns-in-None
returns-in-None c line rest none is = absurd (no_cut line rest (subst NoLineFeed is c.in-None.ensures))
