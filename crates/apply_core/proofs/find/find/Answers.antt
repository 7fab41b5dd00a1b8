use Rattle.std.proofs.Common.{sym, arith}
use Rattle.apply_core.proofs.Cuts.{uncut, no_key, no_value, row_passed, stands_here, gap_here, gap_behind}
use Rattle.apply_core.proofs.find.find.Goals as goal

pub loop-place-init : goal.loop-place-init
loop-place-init c = uncut c.args.sort c.args.count c.args.key.now c.args.bytes.now

pub loop-place-preserved : goal.loop-place-preserved
loop-place-preserved c =
    row_passed c.args.sort c.args.count c.args.key.now c.args.bytes.now c.loop-place.rest.now c.in-Some.front.now c.in-Some.value.now c.in-Some-skip.next.now c.loop-place.place c.loop-place.invariant (omega arith) c.in-Some.ensures.some (sym c.in-Less.ensures)
    c.in-Some-skip.ensures.some

pub returns-in_default-clause-gap : goal.returns-in_default-clause-gap
returns-in_default-clause-gap c = λ _ m is. absurd
    (no_key c.args.sort c.args.count c.args.key.now c.args.bytes.now c.loop-place.rest.now c.loop-place.place c.loop-place.invariant (omega arith) c.in_default.ensures.none m is)

pub returns-in-Equal-clause-stands : goal.returns-in-Equal-clause-stands
returns-in-Equal-clause-stands c = λ _.
    stands_here c.args.sort c.args.count c.args.key.now c.args.bytes.now c.loop-place.rest.now c.in-Some.front.now c.in-Some.value.now c.loop-place.place c.loop-place.invariant (omega arith) c.in-Some.ensures.some (sym c.in-Equal.ensures)

pub returns-in-Greater-clause-gap : goal.returns-in-Greater-clause-gap
returns-in-Greater-clause-gap c = λ _.
    gap_here c.args.sort c.args.count c.args.key.now c.args.bytes.now c.loop-place.rest.now c.in-Some.front.now c.in-Some.value.now c.loop-place.place c.loop-place.invariant (omega arith) c.in-Some.ensures.some (sym c.in-Greater.ensures)

pub returns-in_default-skip-clause-gap : goal.returns-in_default-skip-clause-gap
returns-in_default-skip-clause-gap c = λ _ m is. absurd
    (no_value c.args.sort c.args.count c.args.key.now c.args.bytes.now c.loop-place.rest.now c.in-Some.front.now c.in-Some.value.now c.loop-place.place c.loop-place.invariant (omega arith) c.in-Some.ensures.some c.in_default-skip.ensures.none m is)

pub returns-clause-gap : goal.returns-clause-gap
returns-clause-gap c = λ _.
    gap_behind c.args.sort c.args.count c.args.key.now c.args.bytes.now c.loop-place.rest.now c.loop-place.place c.loop-place.invariant (omega arith)
