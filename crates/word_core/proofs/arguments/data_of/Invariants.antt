use Rattle.std.proofs.Common.{length}
use Rattle.word_core.proofs.Reading.{HasRead}
use Rattle.word_core.proofs.arguments.data_of.Given as goal

abbrev pub invariant-words : goal.invariant-words
invariant-words l = HasRead l.line l.rest l.all.items

abbrev pub decreases-words : goal.decreases-words
decreases-words l = length l.rest
