use Rattle.std.proofs.Common.{◌++◌, drop, refl, sym, ap, ◌∙◌}
use Rattle.std.proofs.lemmas.List.{take-append-drop}
use Rattle.live_core.specs.Front.{opening_of}
use Rattle.recover_core.proofs.epochs.epoch_of.Goals as goal

pub returns-in-Ok : goal.returns-in-Ok
returns-in-Ok c =
    let told = rw c.in-Ok.is at c.in_ok-front.ensures.told in
    let text = c.whole.result.now in
    let bytes = c.in-Ok.field-0-1 in
    (opening_of c.in-Ok.front, drop bytes text, told.2, sym c.whole.ensures.text ∙ sym (take-append-drop bytes text) ∙ ap (λ t. t ++ drop bytes text) told.1, refl)
