use Rattle.value_core.specs.declared.kind.Elem.TheVariants as elem
use Rattle.std.proofs.Common.{arith}
use Rattle.apply_core.proofs.Strips.{none_yet, one_more, no_one_more, all_elements, too_many}
use Rattle.apply_core.proofs.strip.are_texts.Goals as goal

pub loop-place-init : goal.loop-place-init
loop-place-init c = none_yet c.args.bytes.now elem.Text

pub returns-in_default-clause-no : goal.returns-in_default-clause-no
returns-in_default-clause-no c = λ _.
    no_one_more c.args.bytes.now c.loop-place.rest.now elem.Text c.loop-place.place c.args.count c.loop-place.invariant (omega arith) c.in_default.ensures.none

pub loop-place-preserved : goal.loop-place-preserved
loop-place-preserved c =
    one_more c.args.bytes.now c.loop-place.rest.now c.in-Some.behind.now elem.Text c.loop-place.place c.in-Some.ensures.some.0 c.loop-place.invariant c.in-Some.ensures.some.1 c.in-Some.ensures.some.2

pub returns-clause-no : goal.returns-clause-no
returns-clause-no c = λ no.
    too_many c.args.bytes.now c.loop-place.rest.now elem.Text c.loop-place.place c.args.count c.loop-place.invariant (omega arith) (c.is_end.ensures.no no)

pub returns-clause-yes : goal.returns-clause-yes
returns-clause-yes c = λ yes.
    all_elements c.args.bytes.now c.loop-place.rest.now elem.Text c.loop-place.place c.args.count c.loop-place.invariant (omega arith) (c.is_end.ensures.yes yes)
