use Rattle.std.proofs.Common.{arith}
use Rattle.value_core.specs.declared.kind.Kind.TheVariants as kinds
use Rattle.apply_core.proofs.Queues.{taken_none, no_oldest, taken, taken_ok}
use Rattle.apply_core.proofs.queue.take.Goals as goal

pub returns-then-count-eq0 : goal.returns-then-count-eq0
returns-then-count-eq0 c = λ v is.
    taken_none c.args.bytes.now c.opened-count.result.1.now c.args.sort c.opened-count.result.0 v is (c.opened-count.ensures (kinds.Queue c.args.sort) v is) (omega arith)

pub returns-in_default : goal.returns-in_default
returns-in_default c = λ v is. absurd
    (no_oldest c.args.bytes.now c.opened-count.result.1.now c.args.sort c.opened-count.result.0 v is (c.opened-count.ensures (kinds.Queue c.args.sort) v is) (omega arith) c.in_default.ensures.none)

pub returns-in-Ok : goal.returns-in-Ok
returns-in-Ok c = λ v is.
    taken c.args.bytes.now c.opened-count.result.1.now c.in-Some.rest.now c.in-Ok.out.items c.args.sort c.opened-count.result.0 v is (c.opened-count.ensures (kinds.Queue c.args.sort) v is) (omega arith) c.in-Some.ensures.some c.in-Ok.ensures

pub returns-in-Err : goal.returns-in-Err
returns-in-Err c = λ v is.
    taken_ok c.args.bytes.now c.opened-count.result.1.now c.args.sort c.opened-count.result.0 v is (c.opened-count.ensures (kinds.Queue c.args.sort) v is) (omega arith)
