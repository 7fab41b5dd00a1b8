use Rattle.std.proofs.Common.{sym, ◌∙◌}
use Rattle.word_core.specs.View.{word_of}
use Rattle.word_core.proofs.Reading.{no_datum}
use Rattle.word_core.proofs.arguments.push_quoted.Goals as goal

pub returns-in-None : goal.returns-in-None
returns-in-None c = no_datum c.args.line.now (word_of c.in-Found.word) c.in-Found.rest.now c.in-Found.ensures (sym c.datum_of.ensures ∙ c.in-None.is)
