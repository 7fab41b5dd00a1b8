use Rattle.std.proofs.Common.{add-one, ◌≡◌, ◌∙◌, if◌then◌else◌, sym, ap, arith}
use Rattle.page_core.specs.PartPins.{room_in}
use Rattle.queue_core.proofs.Rows.{room_at, room_next}
use Rattle.queue_core.proofs.open_call.room_for.Goals.{then-is_in, else-is_in}
use Rattle.queue_core.proofs.open_call.room_for.Goals as goal

pub loop-part-preserved : goal.loop-part-preserved
loop-part-preserved c =
    let next = ap (room_in c.args.parts 0) (add-one c.loop-part.part) ∙ room_next c.args.parts c.loop-part.part in
    elim c.if-is_in.branch [
      | then-is_in w ↦
          let more : room_at c.args.parts c.loop-part.part ≡ 8 = ap (λ b. if b then 8 else 0) (sym c.is_in.ensures ∙ w.if-is_in.true) in
          (omega (arith, next, more, w.room-is, c.loop-part.invariant.0), omega (arith, w.room-is, c.loop-part.invariant.1))
      | else-is_in w ↦
          let more : room_at c.args.parts c.loop-part.part ≡ 0 = ap (λ b. if b then 8 else 0) (sym c.is_in.ensures ∙ w.if-is_in.false) in
          (omega (arith, next, more, w.room-is, c.loop-part.invariant.0), omega (arith, w.room-is, c.loop-part.invariant.1))
    ]
