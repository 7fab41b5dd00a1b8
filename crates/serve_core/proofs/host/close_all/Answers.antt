use Rattle.std.proofs.Common.{◌∙◌, ap, sym, length, arith}
use Rattle.std.proofs.lemmas.List.{length-map}
use Rattle.session_core.specs.declared.order.Named.{Named}
use Rattle.serve_core.specs.Gathers.{slips_in}
use Rattle.serve_core.specs.Runs.{named_in}
use Rattle.serve_core.proofs.Steps.{step_some, step_none}
use Rattle.serve_core.proofs.Closing.{closed_none, closed_more, closed_all, no_rest}
use Rattle.serve_core.proofs.host.close_all.Goals as goal

pub loop-named-init : goal.loop-named-init
loop-named-init g c =
    let gives = c.into_iter-named-iterator.ensures.into_iter_gives in
    let values = c.into_iter-values.ensures in
    let left = c.into_iter-left.ensures in
    let count = c.args.served.offices.ok.0 in
    record {
      so = closed_none g.H.Hand.agrees _ _ _ _ (ap named_in gives.0) (omega (arith, gives.1, ap length gives.0, count, length-map c.args.served.offices.items (λ (n : Named). n.name), ap length (ap named_in gives.0)))
          values.rest (ap slips_in left.rest);
      values = omega (arith, gives.1, values.len, count, c.args.served.openings.ok.0, c.requires.openings);
      values_items = omega (arith, gives.1, ap length values.rest, count, c.requires.openings);
      left = omega (arith, gives.1, left.len, count, c.args.gathered.ok.0, c.requires.gathered);
      left_items = omega (arith, gives.1, ap length left.rest, count, c.requires.gathered);
    }

pub loop-named-preserved : goal.loop-named-preserved
loop-named-preserved g c =
    let step = step_some c.loop-named.named-iterator c.next.new.self _ _ c.in-Some.is c.next.ensures.steps in
    let values = c.next_of-opening.ensures in
    let left = c.next_of-by_sessions.ensures in
    let was = c.loop-named.invariant in
    let made = c.ending_of-ending.ensures in
    record {
      so = closed_more c.in-Some.named.name _ _ _ _ c.ending_of-ending.result.name c.ending_of-ending.result.opening c.ending_of-ending.result.receipts.items was.so
          (ap named_in step.0) step.1 values.0 (ap slips_in left.0) made.name made.opening made.slips made.backed c.close_one.ensures.ended c.close_one.ensures.files;
      values = omega (arith, step.1, values.1, was.values);
      values_items = omega (arith, step.1, ap length values.0, was.values_items);
      left = omega (arith, step.1, left.1, was.left);
      left_items = omega (arith, step.1, ap length left.0, was.left_items);
    }

pub next_of-opening-requires : goal.next_of-opening-requires
next_of-opening-requires g c =
    let step = step_some c.loop-named.named-iterator c.next.new.self _ _ c.in-Some.is c.next.ensures.steps in
    omega (arith, step.1, c.loop-named.invariant.values)

pub next_of-by_sessions-requires : goal.next_of-by_sessions-requires
next_of-by_sessions-requires g c =
    let step = step_some c.loop-named.named-iterator c.next.new.self _ _ c.in-Some.is c.next.ensures.steps in
    omega (arith, step.1, c.loop-named.invariant.left)

pub returns : goal.returns
returns g c =
    let none = step_none c.loop-named.named-iterator c.next.new.self _ c.in-None.is c.next.ensures.steps in
    let was = c.loop-named.invariant in
    closed_all _ _ was.so none (no_rest _ (omega (arith, none, was.values_items))) (ap slips_in (no_rest _ (omega (arith, none, was.left_items))))
