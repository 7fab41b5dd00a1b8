use Rattle.decl_core.specs.ObjectMap.{object_of}
use Rattle.std.specs.Prelude.{codes}
use Rattle.word_core.specs.View.{words_of}
use Rattle.live_core.specs.Front.{IsKept}
use Rattle.live_core.specs.Text.{kept_words}
use Rattle.front_read.specs.Rows.{row_words}
use Rattle.front_read.specs.Row.{kept_row}
use Rattle.front_read.proofs.Clear.{kept_clear}
use Rattle.front_read.proofs.Standing.{no_words, not_told, takes_told, have_words, have_none}
use Rattle.front_read.proofs.kept.take_kept.Goals as goal

pub returns-in-Some-2 : goal.returns-in-Some-2
returns-in-Some-2 c =
    takes_told (IsKept (object_of c.args.object.now)) (row_words (codes "kept") (kept_words (object_of c.args.object.now))) kept_row c.in-Some-2.row c.args.text.now c.first_line.result.now (words_of c.deref.result.now) c.args.out.now.items c.in_ok-found-in-Some-2.found c.take_this_kept.new.out.items (kept_clear (object_of c.args.object.now) c.object_has_names.ensures) c.first_line.ensures
    (have_words c.first_line.result.now c.in_ok-words.field-0 c.in-Some.words c.deref.result.now c.in_ok-words.ensures c.in-Some.is c.deref.ensures.value)
    (rw c.in-Some-2.is at c.in_ok-row-in-Some.ensures) c.in_ok-found-in-Some-2.ensures

pub returns-in-Some : goal.returns-in-Some
returns-in-Some c =
    not_told (IsKept (object_of c.args.object.now)) (row_words (codes "kept") (kept_words (object_of c.args.object.now))) kept_row c.args.text.now c.first_line.result.now (words_of c.deref.result.now) (kept_clear (object_of c.args.object.now) c.object_has_names.ensures) c.first_line.ensures
    (have_words c.first_line.result.now c.in_ok-words.field-0 c.in-Some.words c.deref.result.now c.in_ok-words.ensures c.in-Some.is c.deref.ensures.value)
    (rw c.in-None-2.is at c.in_ok-row-in-Some.ensures)

pub returns : goal.returns
returns c =
    no_words (IsKept (object_of c.args.object.now)) (row_words (codes "kept") (kept_words (object_of c.args.object.now))) c.args.text.now c.first_line.result.now (kept_clear (object_of c.args.object.now) c.object_has_names.ensures) c.first_line.ensures (have_none c.first_line.result.now c.in_ok-words.field-0 c.in_ok-words.ensures c.in-None.is)
