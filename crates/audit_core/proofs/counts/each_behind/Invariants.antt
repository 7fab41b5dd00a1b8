use Rattle.std.proofs.Common.{take}
use Rattle.path_count.specs.Past.{events_of}
use Rattle.audit_core.specs.Counting.{AreCounters}
use Rattle.audit_core.proofs.counts.each_behind.Given as goal

abbrev pub invariant-loop-place : goal.invariant-loop-place
invariant-loop-place l = AreCounters l.all.items l.n_ops (take l.place l.paths) (events_of l.past)
