use Rattle.std.proofs.Common.{arith}
use Rattle.value_core.specs.declared.kind.Kind.TheVariants as kinds
use Rattle.apply_core.proofs.Arrays.{none_put, some_there, put_there, put_ok}
use Rattle.apply_core.proofs.array.set.Goals as goal

pub returns-then-index-count : goal.returns-then-index-count
returns-then-index-count c = λ n v is.
    none_put c.args.bytes.now c.opened-count.result.1.now c.args.sort c.opened-count.result.0 c.args.index n v is (c.opened-count.ensures (kinds.Array n c.args.sort) v is) c.args.datum.now (omega arith)

pub returns-in_default : goal.returns-in_default
returns-in_default c = λ n v is. absurd
    (some_there c.args.bytes.now c.opened-count.result.1.now c.args.sort c.opened-count.result.0 c.args.index n v is (c.opened-count.ensures (kinds.Array n c.args.sort) v is) (omega arith) c.behind-rest.result.now c.behind-rest.ensures c.in_default.ensures.none)

pub returns-in-Ok : goal.returns-in-Ok
returns-in-Ok c = λ n v is.
    put_there c.args.bytes.now c.opened-count.result.1.now c.args.sort c.opened-count.result.0 c.args.index n v is (c.opened-count.ensures (kinds.Array n c.args.sort) v is) (omega arith) c.behind-rest.result.now c.behind-rest.ensures
    c.before-front.result.now c.in-Some.next.now c.in-Ok.out.items c.args.datum.now (record { sort = c.requires; datum = c.elem-sort.ensures.datum }) c.before-front.ensures c.in-Some.ensures.some c.in-Ok.ensures

pub returns-in-Err : goal.returns-in-Err
returns-in-Err c = λ n v is.
    put_ok c.args.bytes.now c.opened-count.result.1.now c.args.sort c.opened-count.result.0 c.args.index n v is (c.opened-count.ensures (kinds.Array n c.args.sort) v is) (omega arith) c.behind-rest.result.now c.behind-rest.ensures c.args.datum.now
