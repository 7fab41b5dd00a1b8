use Rattle.std.proofs.Common.{◌≡◌, ◌++◌, take, map}
use Rattle.word_core.specs.Words.{behind_word}
use Rattle.word_core.specs.Data.{datum_word}
use Rattle.word_core.proofs.line.push_more_data.Given as goal

abbrev pub invariant-loop-datum : goal.invariant-loop-datum
invariant-loop-datum l = l.out.items ≡ l.initial.out.items ++ behind_word (map datum_word (take l.datum-index l.elements))
