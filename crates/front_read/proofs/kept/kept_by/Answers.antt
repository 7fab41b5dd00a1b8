use Rattle.decl_core.specs.ObjectMap.{object_of}
use Rattle.word_core.specs.View.{words_of}
use Rattle.front_read.specs.Answers.{answer_of_end}
use Rattle.front_read.proofs.Rowing.{kept_by_found, kept_by_none}
use Rattle.front_read.proofs.kept.kept_by.Goals as goal

pub returns-in-Some : goal.returns-in-Some
returns-in-Some c =
    kept_by_found (object_of c.args.object.now) (words_of c.args.words.now) (record { head = c.args.head; ended = c.args.ended.now; operation = c.in-Some.operation; arguments = c.in-Some.arguments }) (rw c.in-Some.is at c.in_ok-operation.ensures)

pub returns-in-None : goal.returns-in-None
returns-in-None c = kept_by_none (object_of c.args.object.now) (words_of c.args.words.now) c.args.head (answer_of_end c.args.ended.now) (rw c.in-None.is at c.in_ok-operation.ensures)
