use Rattle.std.proofs.Common.{◌≡◌, ◌-◌, ◌<◌, length, arith}
use Rattle.std.proofs.lemmas.Option.{slice_get_within}
use Rattle.live_core.proofs.Places.{there, lower_to}
use Rattle.live_core.proofs.waiting.ends_below.Goals as goal

pub returns-then-len-eq0 : goal.returns-then-len-eq0
returns-then-len-eq0 c = λ yes j d at. absurd (omega (arith, c.if-len-eq0.true, slice_get_within c.args.waiting.now j d at))

pub returns-then-found-number : goal.returns-then-found-number
returns-then-found-number c = λ yes j d at.
    let k = length c.args.waiting.now - 1 in
    let within : k < length c.args.waiting.now = omega (arith, slice_get_within c.args.waiting.now j d at) in
    lower_to c.args.waiting.now c.args.number k c.index-waiting-len.result c.requires (there c.args.waiting.now k c.index-waiting-len.result within c.index-waiting-len.is) (omega (arith, c.number-found.ensures, c.if-found-number.true))
    j d (omega (arith, slice_get_within c.args.waiting.now j d at)) at
