use Rattle.std.proofs.Common.{length, ap, arith}
use Rattle.std.specs.Arc.{arc_value}
use Rattle.decl_core.specs.Bodies.{body_of}
use Rattle.decl_core.proofs.Footprints.{writes_are_reads}
use Rattle.run_core.specs.CallPlanned.{IsPlanned}
use Rattle.run_core.proofs.Changing.{are_within, are_known}
use Rattle.run_core.proofs.Renewals.{planned_from_empty, counts_are, each_place, renewals_short}
use Rattle.run_core.proofs.plan.plan_pages.Goals as goal

pub plan_from-requires-clause-within : goal.plan_from-requires-clause-within
plan_from-requires-clause-within c =
    let body = body_of (arc_value c.args.task.now.operation) in
    are_within body.statements 0 16 c.args.changes.now c.requires.rising (λ p writes. c.args.task.now.low p (writes_are_reads body p writes))

pub plan_from-requires-clause-known : goal.plan_from-requires-clause-known
plan_from-requires-clause-known c =
    let body = body_of (arc_value c.args.task.now.operation) in
    are_known body.statements c.args.task.now.pins (length c.args.read.now) 0 c.args.changes.now c.requires.rising
    (λ p writes. let reads = writes_are_reads body p writes in (c.args.task.now.pinned p (c.args.task.now.named p reads), c.requires.read p reads))

pub invariant_of-result : goal.invariant_of-result
invariant_of-result c =
    let plan : IsPlanned c.args.task.now.pins c.args.read.now c.args.changes.now c.plan_from.new.counts c.plan_from.new.planned.stamps.items c.plan_from.new.planned.writes.items c.plan_from.new.planned.gone.items =
    planned_from_empty c.args.task.now.pins c.args.read.now c.args.changes.now c.plan_from.new.counts c.new.result.items c.plan_from.new.planned.stamps.items c.new-2.result.items c.plan_from.new.planned.writes.items c.new-3.result.items c.plan_from.new.planned.gone.items
    c.in-Ok.ensures.planned c.new.ensures.items c.new-2.ensures.items c.new-3.ensures.items in
    record {
      counted = counts_are c.args.task.now.pins c.args.read.now c.args.changes.now c.plan_from.new.counts c.plan_from.new.planned.stamps.items c.plan_from.new.planned.writes.items c.plan_from.new.planned.gone.items plan;
      placed = each_place plan.parts c.plan_from.new.planned.stamps.items c.plan_from.new.planned.writes.items c.plan_from.new.planned.gone.items plan.plans;
      short = renewals_short c.args.task.now.pins c.args.read.now 0 c.args.changes.now plan.parts c.plan_from.new.counts plan.renewals;
      few = omega (arith, ap length c.in-Ok-with_capacity.ensures.items);
      twice = (c.in-Ok-with_capacity-2.ensures.items, omega (arith, c.in-Ok-with_capacity-2.ensures.capacity, c.len-2.ensures, c.plan_from.new.planned.stamps.ok.0));
      room = omega (arith, c.in-Ok-with_capacity.ensures.capacity, c.len.ensures, c.plan_from.new.planned.writes.ok.0);
    }

pub returns-clause-planned : goal.returns-clause-planned
returns-clause-planned c =
    planned_from_empty c.args.task.now.pins c.args.read.now c.args.changes.now c.plan_from.new.counts c.new.result.items c.plan_from.new.planned.stamps.items c.new-2.result.items c.plan_from.new.planned.writes.items c.new-3.result.items c.plan_from.new.planned.gone.items
    c.in-Ok.ensures.planned c.new.ensures.items c.new-2.ensures.items c.new-3.ensures.items
