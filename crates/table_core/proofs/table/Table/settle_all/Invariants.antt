use Rattle.table_core.specs.Brings.{SettlesOn}
use Rattle.table_core.specs.Seen.{seen}
use Rattle.table_core.proofs.table.Table.settle_all.Given as goal

abbrev pub invariant-loop : goal.invariant-loop
invariant-loop l = SettlesOn l.fn.post (seen l.fn.self) l.post (seen l.self)
