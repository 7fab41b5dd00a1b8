use Rattle.std.proofs.Common.{take}
use Rattle.serve_core.specs.Deeds.{RemovesAll}
use Rattle.serve_core.proofs.clear.remove_all.Given as goal

abbrev pub invariant-loop-number : goal.invariant-loop-number
invariant-loop-number g l = RemovesAll g.V.Values.does l.fn.values (take l.number-index l.numbers) l.values
