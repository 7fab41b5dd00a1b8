use Rattle.queue_core.proofs.queue.can_pass.Goals as goal

pub returns : goal.returns
returns c = λ n paths t stands.
    let can = c.can_start.ensures n paths t stands in
    (λ h. (c.if-count-eq0.false, c.if-op-last.false, can.0 h), λ h. can.1 h.2)
