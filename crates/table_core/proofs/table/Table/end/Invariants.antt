use Rattle.client_core.specs.Turns.{AllLeave}
use Rattle.table_core.specs.Brings.{Brings}
use Rattle.table_core.specs.Seen.{seen}
use Rattle.table_core.proofs.table.Table.end.Given as goal

abbrev pub invariant-loop-place : goal.invariant-loop-place
invariant-loop-place l = Brings (AllLeave l.place) l.fn.post (seen l.fn.self) l.post (seen l.self)
