use Rattle.decl_core.specs.ObjectMap.{object_of}
use Rattle.live_core.specs.Front.{opening_of}
use Rattle.live_core.specs.Text.{front_text}
use Rattle.front_read.proofs.Whole.{front_stands, rest_short, told_of, found_of, not_found}
use Rattle.front_read.proofs.Moving.{front_moves, front_none, stops_there}
use Rattle.front_read.proofs.read.read_front.Goals as goal

pub overflow_sub-length : goal.overflow_sub-length
overflow_sub-length c =
    let o = object_of c.args.object.now in
    rest_short c.args.text.now (front_text o (opening_of c.in-Ok.front)) c.in-Ok.rest.now (front_stands o c.args.text.now c.in-Ok.rest.now (opening_of c.in-Ok.front) (rw c.in-Ok.is at c.in_ok-front.ensures)).0

pub returns-in-Ok-clause-told : goal.returns-in-Ok-clause-told
returns-in-Ok-clause-told c = told_of (object_of c.args.object.now) c.args.text.now c.in-Ok.rest.now (opening_of c.in-Ok.front) (rw c.in-Ok.is at c.in_ok-front.ensures)

pub returns-in-Ok-clause-found : goal.returns-in-Ok-clause-found
returns-in-Ok-clause-found c = found_of (object_of c.args.object.now) c.args.text.now c.in-Ok.rest.now (opening_of c.in-Ok.front) c.object_has_names.ensures (rw c.in-Ok.is at c.in_ok-front.ensures)

pub line_before-requires : goal.line_before-requires
line_before-requires c =
    let m = front_moves (object_of c.args.object.now) c.args.text.now c.in-Err.rest.now c.object_has_names.ensures (rw c.in-Err.is at c.in_ok-front.ensures) in
    rest_short c.args.text.now m.before c.in-Err.rest.now m.cut

pub returns-in-Err-clause-found : goal.returns-in-Err-clause-found
returns-in-Err-clause-found c = not_found (object_of c.args.object.now) c.args.text.now (front_none (object_of c.args.object.now) c.args.text.now c.in-Err.rest.now c.object_has_names.ensures (rw c.in-Err.is at c.in_ok-front.ensures)).0

pub returns-in-Err-clause-fault : goal.returns-in-Err-clause-fault
returns-in-Err-clause-fault c =
    let o = object_of c.args.object.now in
    let stuck = rw c.in-Err.is at c.in_ok-front.ensures in
    let m = front_moves o c.args.text.now c.in-Err.rest.now c.object_has_names.ensures stuck in
    record {
      before = m.before;
      rest = c.in-Err.rest.now;
      cut = m.cut;
      counted = c.line_before.ensures m.before m.cut;
      begun = m.begun;
      stops = stops_there o c.args.text.now c.in-Err.rest.now c.object_has_names.ensures stuck;
    }
