use Rattle.std.proofs.Common.{◌≤◌, length, arith}
use Rattle.world_core.proofs.Waiting.{all_told}
use Rattle.world_core.proofs.answer.wait_lines.Goals as goal

pub returns : goal.returns
returns c =
    let few : length c.args.desk.now.calls ≤ c.loop-place.place = omega (arith, c.history.ensures.sound.counted.few, c.loop-place-test.false) in
    all_told c.args.desk.now c.loop-place.place c.loop-place.count c.loop-place.text.items c.loop-place.invariant few
