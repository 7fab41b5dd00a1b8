use Rattle.decl_core.specs.ObjectMap.{object_of}
use Rattle.word_core.specs.View.{words_of}
use Rattle.front_read.proofs.Rowing.{kept_ok, no_answer, no_kept_head}
use Rattle.front_read.proofs.kept.kept_of.Goals as goal

pub returns-in-Some-answer_first : goal.returns-in-Some-answer_first
returns-in-Some-answer_first c =
    kept_ok (object_of c.args.object.now) (words_of c.args.words.now) (words_of c.in-Some.rest.now) (words_of c.behind_first.result.now) c.in-Some.head c.in-Some-answer_first.ended c.in-Some-answer_first.count c.kept_by.result c.requires c.in-Some.ensures c.in-Some-answer_first.ensures c.behind_first.ensures c.kept_by.ensures

pub returns-in-None-answer_first : goal.returns-in-None-answer_first
returns-in-None-answer_first c = no_answer (object_of c.args.object.now) (words_of c.args.words.now) (words_of c.in-Some.rest.now) c.in-Some.head c.requires c.in-Some.ensures c.in-None-answer_first.ensures

pub returns-in-None : goal.returns-in-None
returns-in-None c = no_kept_head (object_of c.args.object.now) (words_of c.args.words.now) c.in-None.ensures
