use Rattle.decl_core.specs.ObjectMap.{object_of}
use Rattle.std.specs.Prelude.{codes}
use Rattle.word_core.specs.View.{words_of}
use Rattle.live_core.specs.declared.past.PastRun.{PastRun}
use Rattle.live_core.specs.Front.{IsRun}
use Rattle.live_core.specs.Text.{run_words}
use Rattle.front_read.specs.Rows.{row_words}
use Rattle.front_read.proofs.Clear.{run_clear}
use Rattle.front_read.proofs.Standing.{no_words, not_told, takes_told, have_words, have_none}
use Rattle.front_read.proofs.run.take_run.Goals as goal

pub returns-in-Some-run_of : goal.returns-in-Some-run_of
returns-in-Some-run_of c =
    takes_told (IsRun (object_of c.args.object.now)) (row_words (codes "past") (run_words (object_of c.args.object.now))) (λ (r : PastRun). r) c.in-Some-run_of.run' c.args.text.now c.first_line.result.now (words_of c.deref.result.now) c.args.out.now.items c.in_ok-found-in-Some-run_of.found c.take_this_run.new.out.items (run_clear (object_of c.args.object.now) c.object_has_names.ensures) c.first_line.ensures
    (have_words c.first_line.result.now c.in_ok-words.field-0 c.in-Some.words c.deref.result.now c.in_ok-words.ensures c.in-Some.is c.deref.ensures.value)
    c.in-Some-run_of.ensures c.in_ok-found-in-Some-run_of.ensures

pub returns-in-Some : goal.returns-in-Some
returns-in-Some c =
    not_told (IsRun (object_of c.args.object.now)) (row_words (codes "past") (run_words (object_of c.args.object.now))) (λ (r : PastRun). r) c.args.text.now c.first_line.result.now (words_of c.deref.result.now) (run_clear (object_of c.args.object.now) c.object_has_names.ensures) c.first_line.ensures
    (have_words c.first_line.result.now c.in_ok-words.field-0 c.in-Some.words c.deref.result.now c.in_ok-words.ensures c.in-Some.is c.deref.ensures.value)
    c.in-None-run_of.ensures

pub returns : goal.returns
returns c =
    no_words (IsRun (object_of c.args.object.now)) (row_words (codes "past") (run_words (object_of c.args.object.now))) c.args.text.now c.first_line.result.now (run_clear (object_of c.args.object.now) c.object_has_names.ensures) c.first_line.ensures (have_none c.first_line.result.now c.in_ok-words.field-0 c.in_ok-words.ensures c.in-None.is)
