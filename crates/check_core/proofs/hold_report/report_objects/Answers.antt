use Rattle.std.proofs.Common.{ap, length, arith, refl}
use Rattle.check_core.proofs.HeldReports.{told_none, told_more, told_all, count_fits, step_some, step_none}
use Rattle.check_core.proofs.hold_report.report_objects.Goals as goal

pub loop-object-init : goal.loop-object-init
loop-object-init c =
    let gives = c.into_iter-object-iterator.ensures.into_iter_gives in
    told_none _ _ _ _ _ gives.0 (omega (arith, gives.1, ap length gives.0, c.args.objects.ok.0)) c.new-text.ensures.items

pub overflow_add-refused : goal.overflow_add-refused
overflow_add-refused c =
    let one = c.in_ok-refused.ensures in
    omega (arith, count_fits _ _ _ c.in-Some.object _ _ _ _ _ _ one.0 c.loop-object.invariant one.2 (omega (arith, c.args.objects.ok.0, c.args.objects.small)))

pub loop-object-preserved : goal.loop-object-preserved
loop-object-preserved c =
    let one = c.in_ok-refused.ensures in
    let step = step_some c.loop-object.object-iterator c.next.new.self _ _ c.in-Some.is c.next.ensures.steps in
    told_more _ _ _ _ _ c.in-Some.object _ _ c.in-Some-split_first.rest.now c.in-Some-split_first.own.now _ _ _ _ one.0 _ c.loop-object.invariant step.0 step.1 c.in-Some-split_first.ensures.cases.0 one.2 one.1 refl

pub returns : goal.returns
returns c = told_all _ _ _ _ _ _ _ c.requires (step_none c.loop-object.object-iterator c.next.new.self _ c.in-None.is c.next.ensures.steps) c.loop-object.invariant
