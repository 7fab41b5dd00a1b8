use Rattle.std.proofs.Common.{rules, arith}
use Rattle.std.specs.Prelude.{IsTrue, IsFalse}
use Rattle.value_core.specs.declared.kind.Kind.TheVariants as kinds
use Rattle.apply_core.proofs.Tables.{no_value_there, over, over_ok, none_fits, new_row, new_ok}
use Rattle.apply_core.proofs.table.store.Goals as goal

pub returns-in_default : goal.returns-in_default
returns-in_default c = λ v is.
    let there : IsTrue c.find_text-there.result.0 = search rules in
    absurd (no_value_there c.args.bytes.now c.opened-count.result.1.now c.args.sort c.opened-count.result.0 c.args.key.now c.find_text-there.result.1.now c.find_text-there.result.2.now (c.find_text-there.ensures.stands there) v is (c.opened-count.ensures (kinds.Table c.args.sort) v is) c.in_default.ensures.none)

pub returns-in-Ok : goal.returns-in-Ok
returns-in-Ok c = λ v is.
    let there : IsTrue c.find_text-there.result.0 = search rules in
    over c.args.bytes.now c.opened-count.result.1.now c.args.sort c.opened-count.result.0 c.args.key.now c.find_text-there.result.1.now c.find_text-there.result.2.now (c.find_text-there.ensures.stands there) v is (c.opened-count.ensures (kinds.Table c.args.sort) v is) c.before-front.result.now c.in-Some.next.now c.in-Ok.out.items c.args.datum.now
    (record { key = c.bytes-bytes.ensures.text; element = record { sort = c.requires; datum = c.elem-sort.ensures.datum } }) c.before-front.ensures c.in-Some.ensures.some c.in-Ok.ensures

pub returns-in-Err : goal.returns-in-Err
returns-in-Err c = λ v is.
    let there : IsTrue c.find_text-there.result.0 = search rules in
    over_ok c.args.bytes.now c.opened-count.result.1.now c.args.sort c.opened-count.result.0 c.args.key.now c.find_text-there.result.1.now c.find_text-there.result.2.now (c.find_text-there.ensures.stands there) v is (c.opened-count.ensures (kinds.Table c.args.sort) v is) c.args.datum.now

pub returns-then-count-ge-MOST_ELEMENTS : goal.returns-then-count-ge-MOST_ELEMENTS
returns-then-count-ge-MOST_ELEMENTS c = λ v is.
    let none : IsFalse c.find_text-there.result.0 = search rules in
    none_fits c.args.bytes.now c.opened-count.result.1.now c.args.sort c.opened-count.result.0 c.args.key.now c.find_text-there.result.1.now (c.find_text-there.ensures.gap none) v is (c.opened-count.ensures (kinds.Table c.args.sort) v is) c.args.datum.now (omega arith)

pub returns-in-Ok-with_row : goal.returns-in-Ok-with_row
returns-in-Ok-with_row c = λ v is.
    let none : IsFalse c.find_text-there.result.0 = search rules in
    new_row c.args.bytes.now c.opened-count.result.1.now c.args.sort c.opened-count.result.0 c.args.key.now c.find_text-there.result.1.now (c.find_text-there.ensures.gap none) v is (c.opened-count.ensures (kinds.Table c.args.sort) v is) c.before-front.result.now c.in-Ok-with_row.out.items c.args.datum.now
    (record { key = c.bytes-bytes.ensures.text; element = record { sort = c.requires; datum = c.elem-sort.ensures.datum } }) (omega arith) c.before-front.ensures c.in-Ok-with_row.ensures

pub returns-in-Err-with_row : goal.returns-in-Err-with_row
returns-in-Err-with_row c = λ v is.
    let none : IsFalse c.find_text-there.result.0 = search rules in
    new_ok c.args.bytes.now c.opened-count.result.1.now c.args.sort c.opened-count.result.0 c.args.key.now c.find_text-there.result.1.now (c.find_text-there.ensures.gap none) v is (c.opened-count.ensures (kinds.Table c.args.sort) v is) c.args.datum.now (omega arith)
