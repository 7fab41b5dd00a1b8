use Rattle.std.proofs.Common.{arith}
use Rattle.value_core.specs.declared.kind.Kind.TheVariants as kinds
use Rattle.apply_core.proofs.Queues.{added, added_ok, added_full}
use Rattle.apply_core.proofs.queue.append.Goals as goal

pub returns-then-count-ge-MOST_ELEMENTS : goal.returns-then-count-ge-MOST_ELEMENTS
returns-then-count-ge-MOST_ELEMENTS c = λ v is.
    added_full c.args.bytes.now c.opened-count.result.1.now c.args.sort c.opened-count.result.0 c.args.datum.now v is (c.opened-count.ensures (kinds.Queue c.args.sort) v is) (omega arith)

pub returns-in-Ok : goal.returns-in-Ok
returns-in-Ok c = λ v is.
    added c.args.bytes.now c.opened-count.result.1.now c.in-Ok.out.items c.args.sort c.opened-count.result.0 c.args.datum.now v is (c.opened-count.ensures (kinds.Queue c.args.sort) v is) (omega arith)
    (record { sort = c.requires; datum = c.elem-sort.ensures.datum }) c.in-Ok.ensures

pub returns-in-Err : goal.returns-in-Err
returns-in-Err c = λ v is.
    added_ok c.args.bytes.now c.opened-count.result.1.now c.args.sort c.opened-count.result.0 c.args.datum.now v is (c.opened-count.ensures (kinds.Queue c.args.sort) v is) (omega arith)
