use Rattle.decl_core.specs.ObjectMap.{object_of}
use Rattle.word_core.specs.View.{words_of}
use Rattle.front_read.proofs.Calling.{asked_by, not_asked}
use Rattle.front_read.proofs.call.call_of.Goals as goal

pub returns-in-Some-2 : goal.returns-in-Some-2
returns-in-Some-2 c =
    asked_by (object_of c.args.object.now) (words_of c.args.words.now) (words_of c.in-Some.rest.now) c.in-Some.name.now c.in-Some-2.arguments.items c.call_by.result c.in-Some.ensures (rw c.in-Some-2.is at c.in_ok-arguments-in-Some.ensures) c.call_by.ensures

pub returns-in-None-2 : goal.returns-in-None-2
returns-in-None-2 c =
    (not_asked (object_of c.args.object.now) (words_of c.args.words.now) (words_of c.in-Some.rest.now) c.in-Some.name.now c.in-Some.ensures (rw c.in-None-2.is at c.in_ok-arguments-in-Some.ensures), tt)
