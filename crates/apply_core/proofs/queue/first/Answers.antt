use Rattle.std.proofs.Common.{sym, arith}
use Rattle.value_core.specs.declared.kind.Kind.TheVariants as kinds
use Rattle.apply_core.proofs.Queues.{oldest_none, oldest_is, no_oldest}
use Rattle.apply_core.proofs.queue.first.Goals as goal

pub returns-then-count-eq0-clause-value : goal.returns-then-count-eq0-clause-value
returns-then-count-eq0-clause-value c = λ v is.
    sym (oldest_none c.args.bytes.now c.opened-count.result.1.now c.args.sort c.opened-count.result.0 v is (c.opened-count.ensures (kinds.Queue c.args.sort) v is) (omega arith))

pub returns-in-Some-clause-value : goal.returns-in-Some-clause-value
returns-in-Some-clause-value c = λ v is.
    oldest_is c.args.bytes.now c.opened-count.result.1.now c.args.sort c.opened-count.result.0 c.in-Some.datum v is (c.opened-count.ensures (kinds.Queue c.args.sort) v is) (omega arith) c.in-Some.ensures.some_is

pub returns-in-None-clause-value : goal.returns-in-None-clause-value
returns-in-None-clause-value c = λ v is. absurd
    (no_oldest c.args.bytes.now c.opened-count.result.1.now c.args.sort c.opened-count.result.0 v is (c.opened-count.ensures (kinds.Queue c.args.sort) v is) (omega arith) c.in-None.ensures.none)
