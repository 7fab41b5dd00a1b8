use Rattle.client_core.specs.Due.{Notes}
use Rattle.client_core.proofs.Placing.{at_place, same_at}
use Rattle.client_core.proofs.Becoming.{becomes}
use Rattle.client_core.proofs.all.note_in.Goals as goal

pub returns-in-Some-clause-notes : goal.returns-in-Some-clause-notes
returns-in-Some-clause-notes c = becomes (Notes c.args.note) c.args.rows.now.items c.args.at c.in-Some.holding.now c.note_one.new.holding
    (at_place c.args.rows.now.items c.args.at c.in-Some.holding.now c.in-Some.ensures.item.3.0 c.in-Some.ensures.value) c.note_one.ensures.notes

pub returns-in-Some-clause-held : goal.returns-in-Some-clause-held
returns-in-Some-clause-held c = same_at c.args.rows.now.items c.args.at c.in-Some.holding.now c.note_one.new.holding
    (at_place c.args.rows.now.items c.args.at c.in-Some.holding.now c.in-Some.ensures.item.3.0 c.in-Some.ensures.value) c.note_one.ensures.held
