use Rattle.std.proofs.Common.{◌≡◌, Some, length, refl, sym, ap, ◌∙◌, arith}
use Rattle.std.specs.Prelude.{slice_get}
use Rattle.std.proofs.lemmas.Option.{slice_get_read}
use Rattle.run_core.proofs.Renewals.{count_few, planned_change}
use Rattle.run_core.proofs.plan.plan_change.Goals as goal

pub overflow_cast-result : goal.overflow_cast-result
overflow_cast-result c =
    let few = count_few c.in-Some.size c.pages_of-old.result.now c.as_slice-was.result.now c.as_slice-after.result.now c.args.planned.now.stamps.items c.plan_part.new.planned.stamps.items c.args.planned.now.writes.items c.plan_part.new.planned.writes.items c.args.planned.now.gone.items c.plan_part.new.planned.gone.items
    c.in-Ok.ensures c.in-Some.ensures.0 c.in-Some.ensures.1 c.len.result c.len-start.result (omega (arith, c.len-start.ensures)) (omega (arith, c.len.ensures)) in
    omega (arith, few)

pub returns : goal.returns
returns c =
    let there : slice_get c.args.before.read.now c.args.change.now.part ≡ Some c.index-read-change.result = slice_get_read c.args.before.read.now (length c.args.before.read.now) c.args.change.now.part c.index-read-change.result refl c.requires.read c.index-read-change.is in
    planned_change c.in-Some.size c.pages_of-old.result.now c.as_slice-was.result.now c.as_slice-after.result.now c.args.planned.now.stamps.items c.plan_part.new.planned.stamps.items c.args.planned.now.writes.items c.plan_part.new.planned.writes.items c.args.planned.now.gone.items c.plan_part.new.planned.gone.items
    c.in-Ok.ensures c.in-Some.ensures.0 c.in-Some.ensures.1 c.len.result c.len-start.result (omega (arith, c.len-start.ensures)) (omega (arith, c.len.ensures))
    c.args.before.pins.now c.args.before.read.now c.args.change.now c.pages_of-old.ensures (there ∙ ap Some (sym c.as_slice-was.ensures)) c.as_slice-after.ensures
