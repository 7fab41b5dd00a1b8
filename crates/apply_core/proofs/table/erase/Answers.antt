use Rattle.std.proofs.Common.{◌≡◌, ◌++◌, ◌-◌, ap, ◌∙◌, rules, arith}
use Rattle.std.specs.Prelude.{IsTrue, IsFalse}
use Rattle.value_core.specs.declared.kind.Kind.TheVariants as kinds
use Rattle.value_bytes.specs.Spelling.{header}
use Rattle.apply_core.proofs.Tables.{none_gone, no_value_there, gone, gone_ok}
use Rattle.apply_core.proofs.table.erase.Goals as goal

pub returns-then-not-there : goal.returns-then-not-there
returns-then-not-there c = λ v is.
    let none : IsFalse c.find_text-there.result.0 = search rules in
    none_gone c.args.bytes.now c.opened-count.result.1.now c.args.sort c.opened-count.result.0 c.args.key.now c.find_text-there.result.1.now (c.find_text-there.ensures.gap none) v is (c.opened-count.ensures (kinds.Table c.args.sort) v is)

pub returns-in_default : goal.returns-in_default
returns-in_default c = λ v is.
    let there : IsTrue c.find_text-there.result.0 = search rules in
    absurd (no_value_there c.args.bytes.now c.opened-count.result.1.now c.args.sort c.opened-count.result.0 c.args.key.now c.find_text-there.result.1.now c.find_text-there.result.2.now (c.find_text-there.ensures.stands there) v is (c.opened-count.ensures (kinds.Table c.args.sort) v is) c.in_default.ensures.none)

pub returns-in-Ok : goal.returns-in-Ok
returns-in-Ok c = λ v is.
    let there : IsTrue c.find_text-there.result.0 = search rules in
    let less : c.saturating_sub.result ≡ c.opened-count.result.0 - 1 = omega arith in
    gone c.args.bytes.now c.opened-count.result.1.now c.args.sort c.opened-count.result.0 c.args.key.now c.find_text-there.result.1.now c.find_text-there.result.2.now (c.find_text-there.ensures.stands there) v is (c.opened-count.ensures (kinds.Table c.args.sort) v is) c.before-front.result.now c.in-Some.next.now c.in-Ok.out.items c.before-front.ensures c.in-Some.ensures.some
    (c.in-Ok.ensures ∙ ap (λ n. (header (kinds.Table c.args.sort) n ++ c.before-front.result.now) ++ c.in-Some.next.now) less)

pub returns-in-Err : goal.returns-in-Err
returns-in-Err c = λ v is.
    let there : IsTrue c.find_text-there.result.0 = search rules in
    gone_ok c.args.bytes.now c.opened-count.result.1.now c.args.sort c.opened-count.result.0 c.args.key.now c.find_text-there.result.1.now c.find_text-there.result.2.now (c.find_text-there.ensures.stands there) v is (c.opened-count.ensures (kinds.Table c.args.sort) v is)
