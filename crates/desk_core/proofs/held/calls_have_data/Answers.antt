use Rattle.std.proofs.Common.{◌≤◌, All, length, ap, ◌∙◌, add-one, arith}
use Rattle.value_core.specs.Datum.{IsDatum}
use Rattle.page_core.specs.ObjectCalls.{AcceptedCall}
use Rattle.board_core.specs.Board.{call_at}
use Rattle.desk_core.proofs.Looked.{next, are_all}
use Rattle.desk_core.proofs.held.calls_have_data.Goals as goal

pub loop-place-preserved : goal.loop-place-preserved
loop-place-preserved c =
    next (λ (x : AcceptedCall). All IsDatum x.arguments) c.args.desk.now.calls c.loop-place.place c.loop-place.invariant
    (λ x is. c.call_has_data.ensures x (ap (call_at c.args.desk.now.calls) (add-one c.loop-place.place) ∙ is))

pub returns : goal.returns
returns c =
    let few : length c.args.desk.now.calls ≤ c.loop-place.place = omega (arith, c.history.ensures.sound.counted.few, c.loop-place-test.false) in
    are_all (λ (x : AcceptedCall). All IsDatum x.arguments) c.args.desk.now.calls c.loop-place.place few c.loop-place.invariant
