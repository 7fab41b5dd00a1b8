use Rattle.std.proofs.Common.{◌∷◌, [], ◌++◌, sym, subst}
use Rattle.std.specs.Prelude.{slice_set}
use Rattle.queue_core.specs.Queue.{AreCounted}
use Rattle.queue_core.proofs.Queueing.{counted_in}
use Rattle.queue_core.proofs.queue.count_in.Goals as goal

pub returns-clause-counted : goal.returns-clause-counted
returns-clause-counted c = λ waiting w counted few is.
    subst (λ v. AreCounted (waiting ++ w ∷ []) (slice_set c.args.counts.now c.args.op v)) (sym c.saturating_add.ensures) (counted_in waiting w c.args.counts.now c.args.op counted few is c.requires)
