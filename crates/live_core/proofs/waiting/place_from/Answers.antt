use Rattle.std.proofs.Common.{◌≡◌, ◌+◌, ◌-◌, ◌/◌, ◌<◌, ℕ, Some, length, arith, subst}
use Rattle.std.specs.Prelude.{slice_get}
use Rattle.std.proofs.lemmas.Option.{slice_get_within}
use Rattle.word_core.specs.Events.{Called}
use Rattle.live_core.proofs.Places.{there, lower_to, others_from}
use Rattle.live_core.proofs.waiting.place_from.Goals as goal

pub loop-low-preserved-then-found-number : goal.loop-low-preserved-then-found-number
loop-low-preserved-then-found-number c =
    let I = c.loop-low.invariant in
    let m = c.loop-low.low + (c.loop-low.high - c.loop-low.low) / 2 in
    let within : m < length c.args.waiting.now = omega (arith, I.0, I.1, c.loop-low-test.true) in
    let at = there c.args.waiting.now m c.index-waiting-middle.result within c.index-waiting-middle.is in (
      omega (arith, c.loop-low-test.true),
      I.1,
      lower_to c.args.waiting.now c.args.number m c.index-waiting-middle.result c.requires at (omega (arith, c.number-found.ensures, c.if-found-number.true)),
      I.3,
    )

pub loop-low-preserved : goal.loop-low-preserved
loop-low-preserved c =
    let I = c.loop-low.invariant in
    let m = c.loop-low.low + (c.loop-low.high - c.loop-low.low) / 2 in
    let within : m < length c.args.waiting.now = omega (arith, I.0, I.1, c.loop-low-test.true) in
    let at = there c.args.waiting.now m c.index-waiting-middle.result within c.index-waiting-middle.is in (
      omega (arith, c.loop-low-test.true),
      omega (arith, within),
      I.2,
      others_from c.args.waiting.now c.args.number m c.index-waiting-middle.result c.requires at (omega (arith, c.number-found.ensures, c.if-found-number.false)),
    )
