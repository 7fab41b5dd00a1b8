use Rattle.std.proofs.Common.{List, sym, ◌∙◌, Some}
use Rattle.std.proofs.lemmas.Bool.{false≢true}
use Rattle.value_core.specs.declared.datum.Datum.{Datum}
use Rattle.word_core.proofs.Lines.{shorter}
use Rattle.word_core.specs.Reads.{Adds}
use Rattle.word_core.proofs.Reading.{has_read_more, all_read, bad_data}
use Rattle.word_core.proofs.arguments.data_of.Goals as goal

pub words-smaller : goal.words-smaller
words-smaller c =
    let adds : Adds c.words.rest.now c.words.all.items (Some c.in-Some.behind) c.push_next.new.all.items = rw c.in-Some.is at c.in_ok-behind.ensures in
    shorter c.words.rest.now c.in-Some.behind.now adds.0 adds.2

pub words-preserved : goal.words-preserved
words-preserved c =
    has_read_more c.args.line.now c.words.rest.now c.in-Some.behind c.words.all.items c.push_next.new.all.items c.words.invariant (rw c.in-Some.is at c.in_ok-behind.ensures)

pub returns-in-None : goal.returns-in-None
returns-in-None c =
    bad_data {V = List Datum} (λ v. v) c.args.line.now c.words.rest.now c.words.all.items c.push_next.new.all.items c.words.invariant (λ none. false≢true (sym c.words-test.true ∙ c.is_blank.ensures.1 none)) (rw c.in-None.is at c.in_ok-behind.ensures)

pub returns : goal.returns
returns c = all_read {V = List Datum} (λ v. v) c.args.line.now c.words.rest.now c.words.all.items c.words.invariant (c.is_blank.ensures.0 c.words-test.false)
