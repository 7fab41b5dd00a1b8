use Rattle.std.proofs.Common.{take}
use Rattle.page_core.specs.Lists.{Every}
use Rattle.office_core.specs.Closing.{Stands}
use Rattle.office_core.proofs.uncalled.first_mismatch.Given as goal

abbrev pub invariant-loop-k : goal.invariant-loop-k
invariant-loop-k l = Every (Stands l.history) (take l.k l.receipts)
