use Rattle.std.proofs.Common.{inl, refl, subst}
use Rattle.live_core.specs.Front.{opening_of}
use Rattle.recover_core.specs.Clients.{OpenAll}
use Rattle.recover_core.proofs.Recovering.{if_ok}
use Rattle.recover_core.proofs.recover.recover_behind.Goals as goal

pub returns-in-Some : goal.returns-in-Some
returns-in-Some c = inl (rw c.in-Some.is at c.in_ok-odd.ensures.some)

pub returns-in-Some-2 : goal.returns-in-Some-2
returns-in-Some-2 c =
    let f = opening_of c.args.front in
    let h = c.args.house in
    let come = rw c.in_default.is at c.in_ok-odd.ensures.none in
    let stands = rw c.in-Some-2.is at c.in_ok-playing.ensures in
    let opens = subst (λ g. OpenAll h.now g f.clients f.kept c.open.new.guests) c.in_ok-guests.ensures come.1 in
    if_ok c.recover_lines.result (λ found is. is f h c.open.new.guests stands.0 come.0 opens refl refl refl) c.recover_lines.ensures

pub returns-in-None : goal.returns-in-None
returns-in-None c =
    let f = opening_of c.args.front in
    let h = c.args.house in
    let come = rw c.in_default.is at c.in_ok-odd.ensures.none in
    let opens = subst (λ g. OpenAll h.now g f.clients f.kept c.open.new.guests) c.in_ok-guests.ensures come.1 in (c.open.new.guests, record { counted = come.0; opens = opens })
