use Rattle.std.proofs.Common.{◌∙◌}
use Rattle.word_core.specs.View.{words_of}
use Rattle.front_read.proofs.Calling.{some_same, not_some}
use Rattle.front_read.proofs.Answering.{ending_read}
use Rattle.word_core.specs.Text.{reply_ending}
use Rattle.front_read.proofs.answer.reply_of_two.Goals as goal

pub returns-in-Some-clause-found : goal.returns-in-Some-clause-found
returns-in-Some-clause-found c reply is same = c.reply_of.ensures.found reply is (some_same (c.in-Some.ensures ∙ ending_read reply (words_of c.args.words.now) is same))

pub returns-in-None-clause-found : goal.returns-in-None-clause-found
returns-in-None-clause-found c reply is same = absurd (not_some (reply_ending reply) (c.in-None.ensures ∙ ending_read reply (words_of c.args.words.now) is same))
