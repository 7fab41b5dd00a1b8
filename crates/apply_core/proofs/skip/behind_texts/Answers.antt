use Rattle.std.proofs.Common.{◌≡◌, drop, ap, ◌∙◌, arith}
use Rattle.std.specs.List.{flat_map}
use Rattle.value_core.specs.declared.kind.Elem.TheVariants as elem
use Rattle.value_bytes.specs.Spelling.{spelled_datum}
use Rattle.apply_core.proofs.Skips.{one_passed, none_to_pass}
use Rattle.apply_core.proofs.skip.behind_texts.Goals as goal

pub loop-place-init : goal.loop-place-init
loop-place-init c = λ xs each spelled few. spelled

pub loop-place-preserved : goal.loop-place-preserved
loop-place-preserved c =
    one_passed elem.Text c.args.bytes.now c.loop-place.rest.now c.in-Some.next.now c.loop-place.place c.args.count c.loop-place.invariant (omega arith) c.in-Some.ensures.some

pub returns-in_default : goal.returns-in_default
returns-in_default c = λ xs each spelled few. absurd
    (none_to_pass elem.Text c.args.bytes.now c.loop-place.rest.now c.loop-place.place c.args.count c.loop-place.invariant (omega arith) c.in_default.ensures.none xs each spelled few)

pub returns : goal.returns
returns c = λ xs each spelled few.
    let all : c.loop-place.place ≡ c.args.count = omega arith in
    c.loop-place.invariant xs each spelled few ∙ ap (λ n. flat_map spelled_datum (drop n xs)) all
