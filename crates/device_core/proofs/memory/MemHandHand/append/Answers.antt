use Rattle.device_core.proofs.memory.MemHandHand.append.Goals as goal

pub returns-in-Some-Ok-clause-pen : goal.returns-in-Some-Ok-clause-pen
returns-in-Some-Ok-clause-pen c = λ b is. rw c.in-Some-Ok.field-0-is at (c.in-Some-Ok.ensures.opened b is)

pub returns-in-Some-Ok-clause-grows : goal.returns-in-Some-Ok-clause-grows
returns-in-Some-Ok-clause-grows c = λ b is. rw c.in-Some-Ok.field-0-is at (c.in-Some-Ok.ensures.grows b is)

pub returns-in-Some-Err-clause-stays : goal.returns-in-Some-Err-clause-stays
returns-in-Some-Err-clause-stays c = λ b is. rw c.in-Some-Err.field-0-is at (c.in-Some-Err.ensures.grows b is)

pub returns-in-Some-Ok-clause-makes : goal.returns-in-Some-Ok-clause-makes
returns-in-Some-Ok-clause-makes c = λ b is. rw c.in-Some-Ok.field-0-is at (c.in-Some-Ok.ensures.grows b is)
