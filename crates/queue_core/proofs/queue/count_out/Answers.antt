use Rattle.std.proofs.Common.{◌+◌, ◌++◌, take, drop, sym, subst}
use Rattle.std.specs.Prelude.{slice_set}
use Rattle.queue_core.specs.Queue.{AreCounted}
use Rattle.queue_core.proofs.Queueing.{counted_out}
use Rattle.queue_core.proofs.queue.count_out.Goals as goal

pub returns-clause-counted : goal.returns-clause-counted
returns-clause-counted c = λ waiting place w counted is same.
    subst (λ v. AreCounted (take place waiting ++ drop (place + 1) waiting) (slice_set c.args.counts.now c.args.op v)) (sym c.saturating_sub.ensures) (counted_out waiting place w c.args.counts.now c.args.op counted is same c.requires)
