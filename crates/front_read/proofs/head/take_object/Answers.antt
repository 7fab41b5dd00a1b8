use Rattle.std.proofs.Common.{ℕ}
use Rattle.std.specs.Prelude.{Some, None}
use Rattle.word_core.specs.View.{words_of}
use Rattle.live_core.specs.Front.{IsKey}
use Rattle.live_core.specs.Text.{object_words}
use Rattle.front_read.specs.Words.{epoch_of}
use Rattle.front_read.proofs.Clear.{object_clear}
use Rattle.front_read.proofs.Telling.{by_function, epoch_told, epoch_is}
use Rattle.front_read.proofs.Standing.{no_words, not_told, gives_ok, have_words, have_none}
use Rattle.front_read.proofs.head.take_object.Goals as goal

pub returns-in-Some-epoch_of : goal.returns-in-Some-epoch_of
returns-in-Some-epoch_of c =
    gives_ok IsKey (object_words c.args.object.now.name) c.in-Some-epoch_of.epoch c.args.text.now c.first_line.result.now (words_of c.deref.result.now) c.take_this_object.result (object_clear c.args.object.now.name c.object_has_names.ensures.own) c.first_line.ensures
    (have_words c.first_line.result.now c.in_ok-words.field-0 c.in-Some.words c.deref.result.now c.in_ok-words.ensures c.in-Some.is c.deref.ensures.value)
    (by_function IsKey (object_words c.args.object.now.name) (λ n. n) epoch_of (words_of c.deref.result.now) (Some c.in-Some-epoch_of.epoch) (epoch_told c.args.object.now.name) (epoch_is (words_of c.deref.result.now)) c.in-Some-epoch_of.ensures) c.take_this_object.ensures

pub returns-in-Some : goal.returns-in-Some
returns-in-Some c =
    not_told IsKey (object_words c.args.object.now.name) (λ (n : ℕ). n) c.args.text.now c.first_line.result.now (words_of c.deref.result.now) (object_clear c.args.object.now.name c.object_has_names.ensures.own) c.first_line.ensures
    (have_words c.first_line.result.now c.in_ok-words.field-0 c.in-Some.words c.deref.result.now c.in_ok-words.ensures c.in-Some.is c.deref.ensures.value)
    (by_function IsKey (object_words c.args.object.now.name) (λ (n : ℕ). n) epoch_of (words_of c.deref.result.now) None (epoch_told c.args.object.now.name) (epoch_is (words_of c.deref.result.now)) c.in-None-epoch_of.ensures)

pub returns : goal.returns
returns c = no_words IsKey (object_words c.args.object.now.name) c.args.text.now c.first_line.result.now (object_clear c.args.object.now.name c.object_has_names.ensures.own) c.first_line.ensures (have_none c.first_line.result.now c.in_ok-words.field-0 c.in_ok-words.ensures c.in-None.is)
