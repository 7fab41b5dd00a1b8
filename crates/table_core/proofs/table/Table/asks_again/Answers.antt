use Rattle.table_core.specs.Seen.{seen}
use Rattle.table_core.proofs.Turning.{not_again}
use Rattle.table_core.proofs.table.Table.asks_again.Goals as goal

pub returns-in-Some-clause-no : goal.returns-in-Some-clause-no
returns-in-Some-clause-no c = λ is. not_again (seen c.args.self.now) c.args.place c.in-Some.opened c.in-Some.ensures (c.waits_by_name.ensures.no is)
