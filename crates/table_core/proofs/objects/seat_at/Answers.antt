use Rattle.std.proofs.Common.{◌∙◌}
use Rattle.table_core.proofs.Placing.{at_place, seated}
use Rattle.table_core.proofs.objects.seat_at.Goals as goal

pub returns-in-Some-seat-clause-ok : goal.returns-in-Some-seat-clause-ok
returns-in-Some-seat-clause-ok c =
    let gets = c.in-Some-seat.ensures.some in
    seated c.args.objects.now.items c.args.at c.in-Some-seat.session c.in-Some.object.now c.own.new.self
    (at_place c.args.objects.now.items c.args.at c.in-Some.object.now c.in-Some.ensures.item.3.0 c.in-Some.ensures.value) gets.0 (c.own.ensures ∙ gets.1)
