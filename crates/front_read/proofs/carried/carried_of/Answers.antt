use Rattle.decl_core.specs.ObjectMap.{object_of}
use Rattle.word_core.specs.View.{words_of}
use Rattle.front_read.proofs.Rowing.{carried_found, no_call, no_head}
use Rattle.front_read.proofs.carried.carried_of.Goals as goal

pub returns-in-Some-2 : goal.returns-in-Some-2
returns-in-Some-2 c =
    carried_found (object_of c.args.object.now) (words_of c.args.words.now) (words_of c.in-Some.rest.now) (record { head = c.in-Some.head; operation = c.in-Some-2.operation; arguments = c.in-Some-2.arguments }) c.in-Some.ensures (rw c.in-Some-2.is at c.in_ok-operation-in-Some.ensures)

pub returns-in-None-2 : goal.returns-in-None-2
returns-in-None-2 c = no_call (object_of c.args.object.now) (words_of c.args.words.now) (words_of c.in-Some.rest.now) c.in-Some.head c.in-Some.ensures (rw c.in-None-2.is at c.in_ok-operation-in-Some.ensures)

pub returns-in-None : goal.returns-in-None
returns-in-None c = no_head (object_of c.args.object.now) (words_of c.args.words.now) c.in-None.ensures
