use Rattle.history_law.proofs.Runs.{made_asked, made_leaves}
use Rattle.history_law.proofs.asker_laws.made_are_asked.Goals as goal

pub returns-clause-asked : goal.returns-clause-asked
returns-clause-asked c = made_asked c.with_held.result c.with_held.ensures.quiet

pub returns-clause-crash : goal.returns-clause-crash
returns-clause-crash c = made_leaves c.with_held.result c.with_held.ensures.quiet
