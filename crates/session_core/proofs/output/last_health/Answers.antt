use Rattle.session_core.proofs.Saying.{last_lost, last_short, was_mixed, not_so}
use Rattle.session_core.proofs.output.last_health.Goals as goal

pub returns-then-not-is_none : goal.returns-then-not-is_none
returns-then-not-is_none c = λ start now notes is. last_lost start now c.args.held.now c.args.health notes c.args.at c.in-Fine.is (not_so c.is_none.result c.if-not-is_none.true c.is_none.ensures.1) is

pub returns-else-is_shut : goal.returns-else-is_shut
returns-else-is_shut c = λ start now notes is. was_mixed start now c.args.held.now c.args.health notes c.args.at c.in-Fine.is is

pub returns-in-NoMemory : goal.returns-in-NoMemory
returns-in-NoMemory c = λ start now notes is. last_short start now c.args.held.now c.args.health notes c.args.at c.in-NoMemory.is is
