use Rattle.client_core.proofs.Starting.{same_steps, seated_keeps, seated_more, seated_step}
use Rattle.client_core.proofs.start.seat_one.Goals as goal

pub returns-in-None-clause-steps : goal.returns-in-None-clause-steps
returns-in-None-clause-steps c = same_steps c.args.hosted.now c.seat.new.self c.in-None.ensures.none.1

pub returns-in_ok-note_other-in-Some-clause-steps : goal.returns-in_ok-note_other-in-Some-clause-steps
returns-in_ok-note_other-in-Some-clause-steps c = seated_step c.args.hosted.now c.seat.new.self c.in-Some.session c.in-Some.ensures.some.0 c.in-Some.ensures.some.1

pub returns-in_ok-note_other-in-Some-clause-taken : goal.returns-in_ok-note_other-in-Some-clause-taken
returns-in_ok-note_other-in-Some-clause-taken c = seated_keeps c.args.hosted.now c.seat.new.self c.in-Some.session c.in-Some.ensures.some.0 c.in-Some.ensures.some.1

pub returns-in_ok-note_other-in-Some-clause-more : goal.returns-in_ok-note_other-in-Some-clause-more
returns-in_ok-note_other-in-Some-clause-more c = λ e n below. seated_more c.args.hosted.now c.seat.new.self c.in-Some.session c.in-Some.ensures.some.0 c.in-Some.ensures.some.1 n below
