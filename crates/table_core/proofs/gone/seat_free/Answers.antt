use Rattle.std.proofs.lemmas.Option.{IfSome_then}
use Rattle.table_core.proofs.Placing.{at_place, seated}
use Rattle.table_core.proofs.gone.seat_free.Goals as goal

pub returns-in-Some-clause-some : goal.returns-in-Some-clause-some
returns-in-Some-clause-some c = IfSome_then c.seat.result c.seat.ensures.some (λ session gets.
    seated c.args.objects.now.items c.args.at session c.in-Some.object.now c.seat.new.self
    (at_place c.args.objects.now.items c.args.at c.in-Some.object.now c.in-Some.ensures.item.3.0 c.in-Some.ensures.value) gets.0 gets.1)
