use Rattle.std.proofs.Common.{◌≡◌, get_or, Some, sym, ap, ◌∙◌}
use Rattle.value_core.proofs.Placing.{found, missing}
use Rattle.value_core.proofs.sorted.Sorted.get.Goals as goal

pub returns-in-Ok : goal.returns-in-Ok
returns-in-Ok g c =
    let read : c.index.result.now ≡ get_or c.args.self.now c.in-Ok.place c.index.result.now = c.index.ensures ∙ ap (λ es. get_or es c.in-Ok.place c.index.result.now) c.self.view_is in
    ap (λ e. Some e.1) read ∙ sym (found _ _ _ _ c.in-Ok.ensures.found)

pub returns-in-Err : goal.returns-in-Err
returns-in-Err g c = sym (missing _ _ _ c.in-Err.ensures.gap)
