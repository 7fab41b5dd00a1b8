use Rattle.std.proofs.Common.{◌≡◌, ◌++◌, take, map}
use Rattle.word_core.specs.Words.{behind_word}
use Rattle.word_core.specs.View.{written_word}
use Rattle.word_core.proofs.line.push_more.Given as goal

abbrev pub invariant-loop-word : goal.invariant-loop-word
invariant-loop-word l = l.out.items ≡ l.initial.out.items ++ behind_word (map written_word (take l.word-index l.words))
