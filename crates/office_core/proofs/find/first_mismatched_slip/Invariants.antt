use Rattle.std.proofs.Common.{take}
use Rattle.page_core.specs.Lists.{Every}
use Rattle.office_core.specs.Slips.{StandsIn}
use Rattle.office_core.proofs.find.first_mismatched_slip.Given as goal

abbrev pub invariant-loop-k : goal.invariant-loop-k
invariant-loop-k l = Every (StandsIn l.history) (take l.k l.slips)
