use Rattle.std.proofs.Common.{sym, arith}
use Rattle.value_core.specs.declared.kind.Kind.TheVariants as kinds
use Rattle.apply_core.proofs.Arrays.{none_at, element_there, some_there}
use Rattle.apply_core.proofs.array.element.Goals as goal

pub returns-then-index-count-clause-value : goal.returns-then-index-count-clause-value
returns-then-index-count-clause-value c = λ n v is.
    sym (none_at c.args.bytes.now c.opened-count.result.1.now c.args.sort c.opened-count.result.0 c.args.index n v is (c.opened-count.ensures (kinds.Array n c.args.sort) v is) (omega arith))

pub returns-in-Some-clause-value : goal.returns-in-Some-clause-value
returns-in-Some-clause-value c = λ n v is.
    element_there c.args.bytes.now c.opened-count.result.1.now c.args.sort c.opened-count.result.0 c.args.index n v is (c.opened-count.ensures (kinds.Array n c.args.sort) v is) (omega arith) c.behind.result.now c.behind.ensures c.in-Some.datum c.in-Some.ensures.some_is

pub returns-in-None-clause-value : goal.returns-in-None-clause-value
returns-in-None-clause-value c = λ n v is. absurd
    (some_there c.args.bytes.now c.opened-count.result.1.now c.args.sort c.opened-count.result.0 c.args.index n v is (c.opened-count.ensures (kinds.Array n c.args.sort) v is) (omega arith) c.behind.result.now c.behind.ensures c.in-None.ensures.none)
