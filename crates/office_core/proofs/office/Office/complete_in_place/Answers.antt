use Rattle.office_core.proofs.office.Office.complete_in_place.Goals as goal

pub returns-then-opens-clause-inside : goal.returns-then-opens-clause-inside
returns-then-opens-clause-inside g c = record {
  old = c.deref_mut-2.result.now;
  new = c.complete_in_place-answer.new.self;
  sound = c.complete_in_place-answer.ensures.sound;
  completes = c.complete_in_place-answer.ensures.inside;
}

pub returns-else-opens-clause-inside : goal.returns-else-opens-clause-inside
returns-else-opens-clause-inside g c = record {
  old = c.deref_mut-2.result.now;
  new = c.complete_in_place-answer.new.self;
  sound = c.complete_in_place-answer.ensures.sound;
  completes = c.complete_in_place-answer.ensures.inside;
}
