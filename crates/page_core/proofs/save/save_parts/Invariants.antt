use Rattle.std.proofs.Common.{take}
use Rattle.page_core.proofs.Saving.{Saving}
use Rattle.page_core.proofs.save.save_parts.Given as goal

abbrev pub invariant-loop-number : goal.invariant-loop-number
invariant-loop-number g l =
    let holds = g.S.Shelf.holds in
    let agrees = g.H.Hand.agrees in
    let shelf = g.S.Shelf.failed in
    let hand = g.H.Hand.failed in
    Saving (holds l.fn.shelf) (holds l.shelf) (agrees l.fn.hand) (agrees l.hand) (g.H.Hand.serves l.fn.hand) (g.H.Hand.serves l.hand) (g.H.Hand.works_for l.fn.hand) (g.H.Hand.works_for l.hand) (shelf l.fn.shelf) (shelf l.shelf) (hand l.fn.hand) (hand l.hand) l.object.name (take l.number l.object.parts.items) (take l.number l.pins)
