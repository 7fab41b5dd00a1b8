use Rattle.std.proofs.Common.{arith, rules}
use Rattle.value_bytes.specs.Spelling.{IsAfter}
use Rattle.apply_core.specs.There.{last_key}
use Rattle.apply_core.proofs.Strips.{no_row_yet, one_row_more, no_row_more, does_not_rise, all_rows, too_many_rows}
use Rattle.apply_core.proofs.strip.are_rows.Goals as goal

pub loop-place-init : goal.loop-place-init
loop-place-init c = no_row_yet c.args.bytes.now c.args.sort

pub returns-in_default-clause-no : goal.returns-in_default-clause-no
returns-in_default-clause-no c = λ _.
    no_row_more c.args.bytes.now c.loop-place.rest.now c.args.sort c.loop-place.place c.args.count (last_key c.loop-place.first c.loop-place.last.now) c.loop-place.invariant (omega arith) c.in_default.ensures.none

pub returns-then-not-rises-clause-no : goal.returns-then-not-rises-clause-no
returns-then-not-rises-clause-no c = λ _.
    let no_after : IsAfter (last_key c.loop-place.first c.loop-place.last.now) c.in-Some.key.now → ⊥ = search rules in
    does_not_rise c.args.bytes.now c.loop-place.rest.now c.in-Some.behind.now c.args.sort c.loop-place.place c.args.count (last_key c.loop-place.first c.loop-place.last.now) c.in-Some.key.now c.in-Some.ensures.some.0 c.loop-place.invariant (omega arith) c.in-Some.ensures.some.1 c.in-Some.ensures.some.2 no_after

pub loop-place-preserved : goal.loop-place-preserved
loop-place-preserved c =
    let after : IsAfter (last_key c.loop-place.first c.loop-place.last.now) c.in-Some.key.now = search rules in
    one_row_more c.args.bytes.now c.loop-place.rest.now c.in-Some.behind.now c.args.sort c.loop-place.place (last_key c.loop-place.first c.loop-place.last.now) c.in-Some.key.now c.in-Some.ensures.some.0 c.loop-place.invariant c.in-Some.ensures.some.1 c.in-Some.ensures.some.2 after

pub returns-clause-no : goal.returns-clause-no
returns-clause-no c = λ no.
    too_many_rows c.args.bytes.now c.loop-place.rest.now c.args.sort c.loop-place.place c.args.count (last_key c.loop-place.first c.loop-place.last.now) c.loop-place.invariant (omega arith) (c.is_end.ensures.no no)

pub returns-clause-yes : goal.returns-clause-yes
returns-clause-yes c = λ yes.
    all_rows c.args.bytes.now c.loop-place.rest.now c.args.sort c.loop-place.place c.args.count (last_key c.loop-place.first c.loop-place.last.now) c.loop-place.invariant (omega arith) (c.is_end.ensures.yes yes)
