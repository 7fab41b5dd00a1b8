use Rattle.std.proofs.Common.{take}
use Rattle.page_core.specs.Lists.{Every}
use Rattle.desk_core.specs.Held.{TellsDatum}
use Rattle.desk_core.proofs.held.replies_are_data.Given as goal

abbrev pub invariant-loop-place : goal.invariant-loop-place
invariant-loop-place l = Every (λ e. TellsDatum e.reply) (take l.place l.entries)
