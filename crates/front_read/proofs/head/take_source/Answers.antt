use Rattle.std.proofs.Common.{ℕ}
use Rattle.word_core.specs.View.{words_of}
use Rattle.live_core.specs.Front.{IsLong}
use Rattle.live_core.specs.Text.{source_words}
use Rattle.front_read.proofs.Clear.{source_clear}
use Rattle.front_read.proofs.Standing.{no_words, not_told, gives_ok, have_words, have_none}
use Rattle.front_read.proofs.head.take_source.Goals as goal

pub returns-in-Some-2 : goal.returns-in-Some-2
returns-in-Some-2 c =
    gives_ok IsLong source_words c.in-Some-2.source c.args.text.now c.first_line.result.now (words_of c.deref.result.now) c.take_this_source.result source_clear c.first_line.ensures
    (have_words c.first_line.result.now c.in_ok-words.field-0 c.in-Some.words c.deref.result.now c.in_ok-words.ensures c.in-Some.is c.deref.ensures.value)
    (rw c.in-Some-2.is at c.in_ok-source-in-Some.ensures) c.take_this_source.ensures

pub returns-in-Some : goal.returns-in-Some
returns-in-Some c =
    not_told IsLong source_words (λ (n : ℕ). n) c.args.text.now c.first_line.result.now (words_of c.deref.result.now) source_clear c.first_line.ensures
    (have_words c.first_line.result.now c.in_ok-words.field-0 c.in-Some.words c.deref.result.now c.in_ok-words.ensures c.in-Some.is c.deref.ensures.value)
    (rw c.in-None-2.is at c.in_ok-source-in-Some.ensures)

pub returns : goal.returns
returns c = no_words IsLong source_words c.args.text.now c.first_line.result.now source_clear c.first_line.ensures (have_none c.first_line.result.now c.in_ok-words.field-0 c.in_ok-words.ensures c.in-None.is)
