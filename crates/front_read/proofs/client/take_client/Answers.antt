use Rattle.std.specs.Prelude.{codes}
use Rattle.word_core.specs.View.{words_of}
use Rattle.live_core.specs.Front.{IsClient}
use Rattle.live_core.specs.Text.{client_words}
use Rattle.front_read.specs.Rows.{row_words}
use Rattle.front_read.specs.Row.{client_row}
use Rattle.front_read.proofs.Clear.{client_clear}
use Rattle.front_read.proofs.Rowing.{client_takes, no_client}
use Rattle.front_read.proofs.Standing.{no_words, have_words, have_none}
use Rattle.front_read.proofs.client.take_client.Goals as goal

pub returns-in-Some-client_of : goal.returns-in-Some-client_of
returns-in-Some-client_of c =
    client_takes (client_row c.in-Some-client_of.row) (words_of c.deref.result.now) c.args.text.now c.first_line.result.now c.args.out.now.items c.in_ok-found-in-Some-client_of.found c.take_named.new.out.items c.in-Some-client_of.ensures c.first_line.ensures
    (have_words c.first_line.result.now c.in_ok-words.field-0 c.in-Some.words c.deref.result.now c.in_ok-words.ensures c.in-Some.is c.deref.ensures.value)
    c.in_ok-found-in-Some-client_of.ensures

pub returns-in-Some : goal.returns-in-Some
returns-in-Some c =
    no_client (words_of c.deref.result.now) c.args.text.now c.first_line.result.now c.in-None-client_of.ensures c.first_line.ensures
    (have_words c.first_line.result.now c.in_ok-words.field-0 c.in-Some.words c.deref.result.now c.in_ok-words.ensures c.in-Some.is c.deref.ensures.value)

pub returns : goal.returns
returns c =
    no_words IsClient (row_words (codes "client") client_words) c.args.text.now c.first_line.result.now client_clear c.first_line.ensures (have_none c.first_line.result.now c.in_ok-words.field-0 c.in_ok-words.ensures c.in-None.is)
