use Rattle.std.proofs.Common.{◌≤◌, ◌∙◌, ◌++◌, drop, arith, length, ap}
use Rattle.std.proofs.lemmas.List.{append-nil, take_all, drop_all}
use Rattle.live_core.specs.Epochs.{numbered_from}
use Rattle.live_core.proofs.Numbering.{next_number}
use Rattle.live_core.proofs.waiting.renumber.Goals as goal

pub loop-place-preserved : goal.loop-place-preserved
loop-place-preserved c =
    next_number c.loop-place.place c.args.waiting.now.items c.loop-place.waiting.items c.index_mut.result.now c.set_number.new.self
    (omega (arith, c.loop-place-test.true, c.len-place-end.ensures)) c.loop-place.invariant (c.index_mut.ensures.value) c.set_number.ensures

pub returns : goal.returns
returns c =
    let old = c.args.waiting.now.items in
    let place = c.loop-place.place in
    let past : length old ≤ place = omega (arith, c.loop-place-test.false, c.len-place-end.ensures) in
    c.loop-place.invariant ∙ ap (λ xs. numbered_from 0 xs ++ drop place old) (take_all place old past) ∙ ap (λ xs. numbered_from 0 old ++ xs) (drop_all place old past)
    ∙ append-nil (numbered_from 0 old)
