use Rattle.std.proofs.Common.{ℕ}
use Rattle.std.specs.Prelude.{Some, None}
use Rattle.word_core.specs.View.{words_of}
use Rattle.live_core.specs.Front.{IsLong}
use Rattle.live_core.specs.Text.{base_words}
use Rattle.front_read.specs.Words.{base_of}
use Rattle.front_read.proofs.Clear.{base_clear}
use Rattle.front_read.proofs.Telling.{by_function, base_told, base_is}
use Rattle.front_read.proofs.Standing.{no_words, not_told, gives_ok, have_words, have_none}
use Rattle.front_read.proofs.head.take_base.Goals as goal

pub returns-in-Some-base_of : goal.returns-in-Some-base_of
returns-in-Some-base_of c =
    gives_ok IsLong base_words c.in-Some-base_of.base c.args.text.now c.first_line.result.now (words_of c.deref.result.now) c.take_this_base.result base_clear c.first_line.ensures
    (have_words c.first_line.result.now c.in_ok-words.field-0 c.in-Some.words c.deref.result.now c.in_ok-words.ensures c.in-Some.is c.deref.ensures.value)
    (by_function IsLong base_words (λ n. n) base_of (words_of c.deref.result.now) (Some c.in-Some-base_of.base) base_told (base_is (words_of c.deref.result.now)) c.in-Some-base_of.ensures) c.take_this_base.ensures

pub returns-in-Some : goal.returns-in-Some
returns-in-Some c =
    not_told IsLong base_words (λ (n : ℕ). n) c.args.text.now c.first_line.result.now (words_of c.deref.result.now) base_clear c.first_line.ensures
    (have_words c.first_line.result.now c.in_ok-words.field-0 c.in-Some.words c.deref.result.now c.in_ok-words.ensures c.in-Some.is c.deref.ensures.value)
    (by_function IsLong base_words (λ (n : ℕ). n) base_of (words_of c.deref.result.now) None base_told (base_is (words_of c.deref.result.now)) c.in-None-base_of.ensures)

pub returns : goal.returns
returns c = no_words IsLong base_words c.args.text.now c.first_line.result.now base_clear c.first_line.ensures (have_none c.first_line.result.now c.in_ok-words.field-0 c.in_ok-words.ensures c.in-None.is)
