use Rattle.std.proofs.Common.{sym, ◌∙◌}
use Rattle.word_core.specs.View.{words_of}
use Rattle.front_read.proofs.Answering.{nothing_found}
use Rattle.front_read.proofs.answer.answer_by.Goals as goal

pub returns-then-is_nothing : goal.returns-then-is_nothing
returns-then-is_nothing c = nothing_found c.args.verb.now (words_of c.args.rest.now) (words_of c.args.words.now) (sym c.requires) (sym c.is_nothing.ensures ∙ c.if-is_nothing.true)
