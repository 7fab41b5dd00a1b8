use Rattle.std.proofs.Common.{inl, inr, refl, ap, ◌++◌, ◌∙◌}
use Rattle.check_core.proofs.judge.add.Goals as goal

pub returns-in-Ok : goal.returns-in-Ok
returns-in-Ok c =
    let judged = rw c.in-Ready.is at c.in_ok-accepted.ensures in
    inl (c.in-Ready.accepted, c.in-Ok.ensures.items, judged.0, judged.1, refl)

pub returns-in_ok-extend_from_slice-in-Told : goal.returns-in_ok-extend_from_slice-in-Told
returns-in_ok-extend_from_slice-in-Told c =
    let judged = rw c.in-Told.is at c.in_ok-accepted.ensures in
    inr (c.in-Told.line.items, judged, refl, c.in_ok-extend_from_slice-in-Told.ensures.items ∙ ap (λ l. c.args.sorted.now.told.items ++ l) c.deref.ensures.value)
