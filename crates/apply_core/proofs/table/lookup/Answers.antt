use Rattle.std.proofs.Common.{sym, rules}
use Rattle.std.specs.Prelude.{IsTrue, IsFalse}
use Rattle.value_core.specs.declared.kind.Kind.TheVariants as kinds
use Rattle.apply_core.proofs.Tables.{under_none, under_it, no_value_there}
use Rattle.apply_core.proofs.table.lookup.Goals as goal

pub returns-then-not-there-clause-value : goal.returns-then-not-there-clause-value
returns-then-not-there-clause-value c = λ v is.
    let none : IsFalse c.find_text-there.result.0 = search rules in
    sym (under_none c.args.bytes.now c.opened-count.result.1.now c.args.sort c.opened-count.result.0 c.args.key.now c.find_text-there.result.1.now (c.find_text-there.ensures.gap none) v is (c.opened-count.ensures (kinds.Table c.args.sort) v is))

pub returns-in-Some-clause-value : goal.returns-in-Some-clause-value
returns-in-Some-clause-value c = λ v is.
    let there : IsTrue c.find_text-there.result.0 = search rules in
    sym (under_it c.args.bytes.now c.opened-count.result.1.now c.args.sort c.opened-count.result.0 c.args.key.now c.find_text-there.result.1.now c.find_text-there.result.2.now (c.find_text-there.ensures.stands there) v is (c.opened-count.ensures (kinds.Table c.args.sort) v is) c.in-Some.datum c.in-Some.ensures.some_is)

pub returns-in-None-clause-value : goal.returns-in-None-clause-value
returns-in-None-clause-value c = λ v is.
    let there : IsTrue c.find_text-there.result.0 = search rules in
    absurd (no_value_there c.args.bytes.now c.opened-count.result.1.now c.args.sort c.opened-count.result.0 c.args.key.now c.find_text-there.result.1.now c.find_text-there.result.2.now (c.find_text-there.ensures.stands there) v is (c.opened-count.ensures (kinds.Table c.args.sort) v is) c.in-None.ensures.none)
