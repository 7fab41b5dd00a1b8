use Rattle.std.proofs.Common.{subst}
use Rattle.front_read.specs.Rows.{TakesThis}
use Rattle.word_core.specs.View.{words_of}
use Rattle.value_core.specs.Contents.{Contents}
use Rattle.word_core.specs.Text.{part_words}
use Rattle.front_read.specs.Parts.{IsValueOf}
use Rattle.front_read.proofs.Clear.{part_clear}
use Rattle.front_read.proofs.Standing.{no_words, not_told, takes_told, have_words, have_none}
use Rattle.front_read.proofs.head.take_part.Goals as goal

pub returns-in-Some-2 : goal.returns-in-Some-2
returns-in-Some-2 c =
    takes_told (IsValueOf c.args.part.now.kind) (part_words c.args.part.now.name) (λ (v : Contents). v) c.in-Some-2.value c.args.text.now c.first_line.result.now (words_of c.deref.result.now) c.args.out.now.items c.in_ok-found-in-Some-2.found c.take_this_part.new.out.items (part_clear c.args.part.now.name c.args.part.now.kind c.as_bytes-name.ensures.name) c.first_line.ensures
    (have_words c.first_line.result.now c.in_ok-words.field-0 c.in-Some.words c.deref.result.now c.in_ok-words.ensures c.in-Some.is c.deref.ensures.value)
    (rw c.in-Some-2.is at c.in_ok-value-in-Some.ensures c.args.part.now.name)
    (subst (λ n. TakesThis (part_words n) c.in-Some-2.value c.args.text.now c.args.out.now.items c.in_ok-found-in-Some-2.found c.take_this_part.new.out.items) c.as_bytes-name.ensures.bytes c.in_ok-found-in-Some-2.ensures)

pub returns-in-Some : goal.returns-in-Some
returns-in-Some c =
    not_told (IsValueOf c.args.part.now.kind) (part_words c.args.part.now.name) (λ (v : Contents). v) c.args.text.now c.first_line.result.now (words_of c.deref.result.now) (part_clear c.args.part.now.name c.args.part.now.kind c.as_bytes-name.ensures.name) c.first_line.ensures
    (have_words c.first_line.result.now c.in_ok-words.field-0 c.in-Some.words c.deref.result.now c.in_ok-words.ensures c.in-Some.is c.deref.ensures.value)
    (rw c.in-None-2.is at c.in_ok-value-in-Some.ensures c.args.part.now.name)

pub returns : goal.returns
returns c = no_words (IsValueOf c.args.part.now.kind) (part_words c.args.part.now.name) c.args.text.now c.first_line.result.now (part_clear c.args.part.now.name c.args.part.now.kind c.as_bytes-name.ensures.name) c.first_line.ensures (have_none c.first_line.result.now c.in_ok-words.field-0 c.in_ok-words.ensures c.in-None.is)
