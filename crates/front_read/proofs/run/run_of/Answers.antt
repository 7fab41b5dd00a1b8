use Rattle.decl_core.specs.ObjectMap.{object_of}
use Rattle.word_core.specs.View.{words_of}
use Rattle.front_read.proofs.Rowing.{run_found, no_run}
use Rattle.front_read.proofs.run.run_of.Goals as goal

pub returns-in-Some : goal.returns-in-Some
returns-in-Some c = run_found (object_of c.args.object.now) (words_of c.args.words.now) c.in-Some.first.now c.in-Some.second.now c.run_by.result c.in-Some.ensures c.run_by.ensures

pub returns-in-None : goal.returns-in-None
returns-in-None c = no_run (object_of c.args.object.now) (words_of c.args.words.now) c.in-None.ensures
