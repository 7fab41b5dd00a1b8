use Rattle.word_core.specs.View.{words_of}
use Rattle.front_read.proofs.Parting.{source_found, no_bytes}
use Rattle.front_read.proofs.head.source_of.Goals as goal

pub returns-in-Some-2 : goal.returns-in-Some-2
returns-in-Some-2 c =
    source_found (words_of c.args.words.now) c.in-Some.hash.now c.in-Some-2.bytes.items c.deref.result.now c.number_in.result c.in-Some.ensures (rw c.in-Some-2.is at c.in_ok-bytes-in-Some.ensures) c.deref.ensures.value c.number_in.ensures.found c.number_in.ensures.fits

pub returns-in-None-2 : goal.returns-in-None-2
returns-in-None-2 c = no_bytes (words_of c.args.words.now) c.in-Some.hash.now c.in-Some.ensures (rw c.in-None-2.is at c.in_ok-bytes-in-Some.ensures)
