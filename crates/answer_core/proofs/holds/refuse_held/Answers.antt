use Rattle.answer_core.proofs.holds.refuse_held.Goals as goal

pub returns-clause-told : goal.returns-clause-told
returns-clause-told g c = (c.first_held.result.now, c.refuse_named.ensures.told)
