use Rattle.table_core.specs.Brings.{EndsSome}
use Rattle.table_core.specs.Seen.{seen}
use Rattle.table_core.proofs.table.Table.end_held.Given as goal

abbrev pub invariant-loop : goal.invariant-loop
invariant-loop l = EndsSome l.place l.fn.post (seen l.fn.self) l.post (seen l.self)
