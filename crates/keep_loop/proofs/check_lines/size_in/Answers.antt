use Rattle.std.proofs.Common.{sym, ◌∙◌}
use Rattle.keep_loop.proofs.CheckLines.{cancel}
use Rattle.keep_loop.proofs.check_lines.size_in.Goals as goal

pub returns-in-Some : goal.returns-in-Some
returns-in-Some c size rest small is = c.number_in.ensures size rest small (cancel c.args.word.now _ _ (sym c.in-Some.ensures ∙ is))
