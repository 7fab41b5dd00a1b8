use Rattle.taken_core.proofs.Places.{place_here, place_past, place_none}
use Rattle.taken_core.proofs.taken.line_among.Goals as goal

pub returns-then-is_found : goal.returns-then-is_found
returns-then-is_found c =
    c.loop-next.invariant.on c.loop-next.number (place_here c.loop-next.rest.now c.in-Some.next.now c.in-Some.more.now c.loop-next.left c.loop-next.number c.in-Some.ensures (c.is_found.ensures.found c.if-is_found.true) c.loop-next.invariant.fits)

pub loop-next-preserved : goal.loop-next-preserved
loop-next-preserved c = record {
  on = λ place at. c.loop-next.invariant.on place (place_past c.loop-next.rest.now c.in-Some.next.now c.in-Some.more.now c.loop-next.left c.left_behind-left.result c.loop-next.number c.saturating_add-number.result place
      c.in-Some.ensures (c.is_found.ensures.other c.if-is_found.false) c.left_behind-left.ensures.check c.left_behind-left.ensures.other c.saturating_add-number.ensures at);
  fits = c.saturating_add-number.type_inv;
}

pub returns : goal.returns
returns c = c.loop-next.invariant.on _ (place_none c.loop-next.rest.now c.loop-next.left c.loop-next.number _ c.in_default.ensures)
