use Rattle.std.proofs.Common.{◌≡◌, ◌∙◌, ap, slice_get, Some, sym}
use Rattle.board_core.specs.Board.{Board}
use Rattle.world_core.proofs.ScriptTelling.{next_start}
use Rattle.world_core.proofs.script.answer.push_starts.Goals as goal

pub loop-place-preserved : goal.loop-place-preserved
loop-place-preserved c =
    let there : slice_get c.args.desk.now.trace c.loop-place.place ≡ Some c.in-Some.event = ap (λ (b : Board). slice_get b.trace c.loop-place.place) (sym c.trace-trace.ensures) ∙ sym c.get.ensures ∙ c.in-Some.is in
    next_start c.args.desk.now.trace c.loop-place.place c.in-Some.event c.number_of.result c.loop-place.out.items c.push_started.new.out.items there c.number_of.ensures c.in_ok-push_started-in-Some.ensures
    ∙ c.loop-place.invariant
