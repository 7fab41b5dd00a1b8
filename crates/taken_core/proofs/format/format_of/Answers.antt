use Rattle.taken_core.proofs.Formats.{names_told_ok}
use Rattle.taken_core.proofs.format.format_of.Goals as goal

pub returns-in-Some : goal.returns-in-Some
returns-in-Some c = names_told_ok c.format_in.result c.args.text.now c.in-Some.rest.now c.in-Some.ensures.0 c.format_in.ensures
