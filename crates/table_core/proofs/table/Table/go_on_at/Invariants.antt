use Rattle.table_core.specs.Brings.{Continues}
use Rattle.table_core.specs.Seen.{seen}
use Rattle.table_core.proofs.table.Table.go_on_at.Given as goal

abbrev pub invariant-loop : goal.invariant-loop
invariant-loop l = Continues l.fn.post (seen l.fn.self) l.post (seen l.self)
